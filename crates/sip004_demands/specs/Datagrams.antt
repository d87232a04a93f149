-- What sealing and opening a datagram of the 2017 edition (SIP004) answer and leave, in the words of its document: [salt][encrypted
-- payload][tag], under HKDF_SHA1(key, salt, "ss-subkey") and a nonce of zeros. Numbers are written out. A method enters by the length
-- of its key alone, which is that of its salt.
-- Assumes nothing.
use Rattle.std.specs.Prelude.{◌≡◌, true, List, [], ◌∷◌, ◌++◌, ◌↔◌, ℕ, ◌+◌, ◌-◌, ◌≤◌, length, take, drop, replicate, Err, Ok}
use Rattle.gcm.specs.Gcm.{tag, crypt}
use Rattle.gcm.specs.Keyed.{ciph_of}
use Rattle.hkdf.specs.Hkdf.{hkdf}
use Rattle.protocol.specs.declared.Refusal.{Refusal}
use Rattle.protocol.specs.declared.Refusal.TheVariants.{NotAuthentic}
use Rattle.protocol.specs.Refusal.{refusal_number}
use Rattle.sip004.specs.Method.{key_fits}
use Rattle.sip004.specs.Datagram.{datagram, seal_answer, seal_out, payload_of, open_answer, open_out}
use Rattle.protocol.specs.Orders.{among}

-- ---- by the document

-- AES under the subkey, which is as long as the key
abbrev pub cipher : (key salt : List ℕ) → ℕ → List ℕ
cipher key salt = ciph_of (hkdf salt key (115 ∷ 115 ∷ 45 ∷ 115 ∷ 117 ∷ 98 ∷ 107 ∷ 101 ∷ 121 ∷ []) (length key))

abbrev pub nonce : List ℕ
nonce = replicate 12 0

-- the three parts of a datagram: the first k bytes, those between, and the last 16
abbrev pub salt_in : ℕ → List ℕ → List ℕ
salt_in k s = take k s

abbrev pub body_in : ℕ → List ℕ → List ℕ
body_in k s = take (length s - (k + 16)) (drop k s)

abbrev pub tag_in : List ℕ → List ℕ
tag_in s = drop (length s - 16) s

-- ---- what a call leaves in the lent buffer

abbrev pub seal_leaves : ℕ → (key salt payload out : List ℕ) → List ℕ
seal_leaves method key salt payload out =
    seal_out (seal_answer method (length key) (length salt) (length payload) (length out)) (datagram key salt payload) out

abbrev pub open_leaves : ℕ → (key s out : List ℕ) → List ℕ
open_leaves method key s out = open_out (open_answer method key s (length out)) (payload_of key s) out

-- ---- opened exactly when it is authentic

-- lawful settings, length and room
pub record Lawful (method : ℕ) (key s out : List ℕ) : Type 0 where
  pub settings : key_fits method (length key) ≡ true
  pub shortest : length key + 16 ≤ length s
  pub longest : length s ≤ 65507
  pub room : length s - (length key + 16) ≤ length out

-- the last 16 bytes are GCM's tag
abbrev pub TagGood : (key s : List ℕ) → Type 0
TagGood key s = tag_in s ≡ tag (cipher key (salt_in (length key) s)) nonce (body_in (length key) s)

pub record OpensExactly (method : ℕ) (key s out : List ℕ) : Type 0 where
  pub accepted : (n : ℕ) → (open_answer method key s (length out) ≡ Ok n) ↔ ((n ≡ length s - (length key + 16)) × TagGood key s)
  pub refused : (open_answer method key s (length out) ≡ Err NotAuthentic) ↔ (TagGood key s → ⊥)
  -- the text stands at the front, and behind it what was there
  pub text : TagGood key s
      → open_leaves method key s out
      ≡ crypt (cipher key (salt_in (length key) s)) nonce (body_in (length key) s) ++ drop (length s - (length key + 16)) out

abbrev pub DatagramsExactly : Type 0
DatagramsExactly = (method : ℕ) (key s out : List ℕ) → Lawful method key s out → OpensExactly method key s out

-- ---- sealed byte for byte

abbrev pub ciphertext : (key salt payload : List ℕ) → List ℕ
ciphertext key salt payload = crypt (cipher key salt) nonce payload

pub record SealsBytes (method : ℕ) (key salt payload out : List ℕ) (n : ℕ) : Type 0 where
  pub size : n ≡ length salt + length payload + 16
  pub bytes : seal_leaves method key salt payload out
      ≡ salt ++ (ciphertext key salt payload ++ (tag (cipher key salt) nonce (ciphertext key salt payload) ++ drop n out))

abbrev pub DatagramsBytes : Type 0
DatagramsBytes =
    (method : ℕ) (key salt payload out : List ℕ) (n : ℕ)
    → seal_answer method (length key) (length salt) (length payload) (length out) ≡ Ok n → SealsBytes method key salt payload out n

-- ---- what is sealed opens to the same payload

-- the first n bytes that the sealer left in its buffer, opened into another with room for the payload
pub record OpensBack (method : ℕ) (key payload s out : List ℕ) : Type 0 where
  pub answer : open_answer method key s (length out) ≡ Ok (length payload)
  pub text : open_leaves method key s out ≡ payload ++ drop (length payload) out

abbrev pub DatagramsBack : Type 0
DatagramsBack =
    (method : ℕ) (key salt payload sent : List ℕ) (n : ℕ)
    → seal_answer method (length key) (length salt) (length payload) (length sent) ≡ Ok n
    → (out : List ℕ) → length payload ≤ length out → OpensBack method key payload (take n (seal_leaves method key salt payload sent)) out

-- ---- what refusals there are, and what is kept

pub record SealKeeps (method : ℕ) (key salt payload out : List ℕ) : Type 0 where
  pub refusals : (r : Refusal) → seal_answer method (length key) (length salt) (length payload) (length out) ≡ Err r
      → among (1 ∷ 2 ∷ 3 ∷ []) (refusal_number r) ≡ true
  pub refused-keeps : (r : Refusal) → seal_answer method (length key) (length salt) (length payload) (length out) ≡ Err r
      → seal_leaves method key salt payload out ≡ out
  pub behind-kept : (n : ℕ) → seal_answer method (length key) (length salt) (length payload) (length out) ≡ Ok n
      → drop n (seal_leaves method key salt payload out) ≡ drop n out
  pub length-kept : length (seal_leaves method key salt payload out) ≡ length out

pub record OpenKeeps (method : ℕ) (key s out : List ℕ) : Type 0 where
  pub refusals : (r : Refusal) → open_answer method key s (length out) ≡ Err r → among (1 ∷ 2 ∷ 3 ∷ 4 ∷ []) (refusal_number r) ≡ true
  pub refused-keeps : (r : Refusal) → open_answer method key s (length out) ≡ Err r → open_leaves method key s out ≡ out
  -- whatever is answered
  pub past-due-kept : drop (length s - (length key + 16)) (open_leaves method key s out) ≡ drop (length s - (length key + 16)) out
  pub length-kept : length (open_leaves method key s out) ≡ length out

pub record DatagramsKeep : Type 0 where
  pub sealing : (method : ℕ) (key salt payload out : List ℕ) → SealKeeps method key salt payload out
  pub opening : (method : ℕ) (key s out : List ℕ) → OpenKeeps method key s out
