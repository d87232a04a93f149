-- A key's block, and HMAC from the hash values behind it.
-- Assumes nothing.
use mathlib.Core.Bool.{Bool, true, false, cond}
use mathlib.Core.Path.{◌≡◌, refl, sym, ap, ap₂, ◌∙◌}
use mathlib.Core.List.{List, [], ◌∷◌, ◌++◌, append_assoc}
use Prim.Native.Nat.{ℕ, zero, suc, ◌+◌, ◌-◌, ◌/◌, ◌%◌, ◌<◌, ◌≤◌}
use native.Mathlib.Omega.{arith}
use borrow.Author.Tests.{le-leb, lt-leb, leb-true}
use lib.Bits.{xor_zero_l, xor_comm}
use lib.Dec.{leb}
use lib.ListN.{length, replicate, length-append, length-replicate}
use Rattle.octets.specs.Buffers.{◌⊞◌}
use Rattle.octets.proofs.BufferLaws.{length-xor, xor-none}
use Rattle.sha1_compression.specs.declared.State.{State}
use Rattle.sha1_compression.specs.Schedule.{block_words}
use Rattle.sha1_compression.specs.Compression.{compressed}
use Rattle.sha1_hash.specs.Hash.{initial_hash, padding, padded, chain, all_blocks, digest_bytes, sha1}
use Rattle.sha1_hash.proofs.ChainLaws.{all_append}
use Rattle.sha1_hash.proofs.DigestLaws.{length-digest, length-sha1}
use Rattle.hmac.specs.Hmac.{ipad, opad, short_key, block_key, hmac_short, hmac, keyed_short, keyed_of, inner_hash, mac_with}
use Rattle.hmac.specs.declared.Keyed.{Keyed}

-- ---- a key's block: with zeros behind the key, ⊕ a repeated byte

zero-pad : (n p : ℕ) → replicate n 0 ⊞ replicate n p ≡ replicate n p
unfolding ◌⊞◌
zero-pad zero p = refl
zero-pad (suc n) p = ap₂ (λ (x : ℕ) (t : List ℕ). x ∷ t) (xor_zero_l p) (zero-pad n p)

pad-key : (n p : ℕ) (k : List ℕ) → length k ≤ n → (k ++ replicate (n - length k) 0) ⊞ replicate n p ≡ replicate n p ⊞ k
unfolding ◌⊞◌
pad-key n p [] h =
    let e : n - 0 ≡ n = omega arith in
    ap (λ (j : ℕ). replicate j 0 ⊞ replicate n p) e ∙ zero-pad n p ∙ sym (xor-none (replicate n p))
pad-key zero p (a ∷ k) h = absurd (omega arith)
pad-key (suc n) p (a ∷ k) h =
    let e : suc n - suc (length k) ≡ n - length k = omega arith in
    let h' : length k ≤ n = omega arith in
    ap₂ (λ (x : ℕ) (t : List ℕ). x ∷ t) (xor_comm a p)
    (ap (λ (j : ℕ). (k ++ replicate j 0) ⊞ replicate n p) e ∙ pad-key n p k h')

key-block : (p : ℕ) (k : List ℕ) → length k ≤ 64 → replicate 64 p ⊞ k ≡ block_key k ⊞ replicate 64 p
unfolding block_key
key-block p k h = sym (pad-key 64 p k h)

-- one block
one_block : (h : State) (b : List ℕ) {r : State} → length b ≡ 64 → r ≡ compressed h (block_words b) → r ≡ all_blocks h b
unfolding all_blocks chain
one_block h b e er = let n : 1 ≡ length b / 64 = omega arith in er ∙ ap (λ (j : ℕ). chain j h b) n

pub behind-pad : (p : ℕ) (k : List ℕ) {b : List ℕ} {h r : State} → b ≡ replicate 64 p ⊞ k → h ≡ initial_hash → r ≡ compressed h (block_words b)
    → r ≡ all_blocks initial_hash (replicate 64 p ⊞ k)
behind-pad p k eb eh er =
    one_block initial_hash (replicate 64 p ⊞ k) (length-xor (replicate 64 p) k ∙ length-replicate 64 p)
    (er ∙ λ i. compressed (eh i) (block_words (eb i)))

length-block : (k : List ℕ) (p : ℕ) → length k ≤ 64 → length (block_key k ⊞ replicate 64 p) ≡ 64
unfolding block_key
length-block k p h =
    length-xor (k ++ replicate (64 - length k) 0) (replicate 64 p)
    ∙ omega (arith, length-append k (replicate (64 - length k) 0), length-replicate {A = ℕ} (64 - length k) 0)

-- ---- a short key, as the code has it

pub short-keyed : (k : List ℕ) {x y : State} → length k ≤ 64 → x ≡ all_blocks initial_hash (replicate 64 0x36 ⊞ k)
    → y ≡ all_blocks initial_hash (replicate 64 0x5c ⊞ k) → record { inner = x; outer = y } ≡ keyed_short k
unfolding keyed_short
short-keyed k h ex ey =
    λ i. record { inner = (ex ∙ ap (all_blocks initial_hash) (key-block 0x36 k h)) i; outer = (ey ∙ ap (all_blocks initial_hash) (key-block 0x5c k h)) i }

-- ---- a key of any length

key-short : (k : List ℕ) → length k ≤ 64 → k ≡ short_key k
unfolding short_key
key-short k h = λ i. cond (sym (le-leb (length k) 64 h) i) k (sha1 k)

key-long : (k : List ℕ) → 64 < length k → sha1 k ≡ short_key k
unfolding short_key
key-long k h = λ i. cond (sym (lt-leb (length k) 64 h) i) k (sha1 k)

pick-length : (b : Bool) (k d : List ℕ) → leb (length k) 64 ≡ b → length d ≡ 20 → length (cond b k d) ≤ 64
pick-length true k d e f = leb-true (length k) 64 e
pick-length false k d e f = omega arith

length-short : (k : List ℕ) → length (short_key k) ≤ 64
unfolding short_key
length-short k = pick-length (leb (length k) 64) k (sha1 k) refl (length-sha1 k)

pub keyed-short : (k : List ℕ) {r : Keyed} → length k ≤ 64 → r ≡ keyed_short k → r ≡ keyed_of k
unfolding keyed_of
keyed-short k h e = e ∙ ap keyed_short (key-short k h)

pub keyed-long : (k : List ℕ) {d : List ℕ} {r : Keyed} → 64 < length k → d ≡ sha1 k → r ≡ keyed_short d → r ≡ keyed_of k
unfolding keyed_of
keyed-long k h ed e = e ∙ ap keyed_short (ed ∙ key-long k h)

-- ---- HMAC from the hash values behind a key's blocks

-- H(p, s) for a block p
behind-block : (p s : List ℕ) → length p ≡ 64 → digest_bytes (all_blocks (all_blocks initial_hash p) (s ++ padding (64 + length s))) ≡ sha1 (p ++ s)
unfolding sha1 padded
behind-block p s e =
    let w : length p % 64 ≡ 0 = omega arith in
    let l : 64 + length s ≡ length (p ++ s) = omega (arith, length-append p s) in
    ap digest_bytes
    (sym (all_append initial_hash p (s ++ padding (64 + length s)) w)
    ∙ ap (all_blocks initial_hash) (ap (λ (j : ℕ). p ++ (s ++ padding j)) l ∙ sym (append_assoc p s (padding (length (p ++ s))))))

mac-short : (k text : List ℕ) → length k ≤ 64 → mac_with (keyed_short k) text ≡ hmac_short k text
unfolding mac_with inner_hash keyed_short hmac_short
mac-short k text h =
    let i = behind-block (block_key k ⊞ ipad) text (length-block k 0x36 h) in
    ap (λ (d : List ℕ). digest_bytes (all_blocks (all_blocks initial_hash (block_key k ⊞ opad)) (d ++ padding (64 + length d)))) i
    ∙ behind-block (block_key k ⊞ opad) (sha1 ((block_key k ⊞ ipad) ++ text)) (length-block k 0x5c h)

pub mac-keyed : (k text : List ℕ) → mac_with (keyed_of k) text ≡ hmac k text
unfolding keyed_of hmac
mac-keyed k text = mac-short (short_key k) text (length-short k)

-- ---- 20 bytes

pub length-mac : (k : Keyed) (text : List ℕ) → length (mac_with k text) ≡ 20
unfolding mac_with
length-mac k text = length-digest (all_blocks k.outer (inner_hash k text ++ padding (64 + length (inner_hash k text))))

pub length-hmac : (k text : List ℕ) → length (hmac k text) ≡ 20
unfolding hmac hmac_short
length-hmac k text = length-sha1 ((block_key (short_key k) ⊞ opad) ++ sha1 ((block_key (short_key k) ⊞ ipad) ++ text))
