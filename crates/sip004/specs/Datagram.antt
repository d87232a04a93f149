-- SIP004, UDP: a datagram is [salt][encrypted payload][tag], each under a subkey of its own; what is answered and what is written. A
-- salt is as long as its key.
use Rattle.std.specs.Prelude.{Bool, true, false, cond, ◌&&◌, List, ◌++◌, ℕ, ◌+◌, ◌-◌, leb, length, take, drop, replicate, Err, Ok, Result}
use Rattle.octets.specs.Buffers.{put}
pub use Rattle.gcm.specs.Gcm.{tag_length}
use Rattle.gcm.specs.Gcm as gcm
use Rattle.gcm.specs.Keyed.{ciph_of, authentic}
use Rattle.protocol.specs.declared.Refusal.TheVariants.{Settings, Length, Room, NotAuthentic}
pub use Rattle.datagram_parts.specs.Parts.{max_datagram}
use Rattle.sip004.specs.Method.{key_fits, settings_fit}
use Rattle.sip004.specs.Subkey.{subkey}
use Rattle.protocol.specs.declared.Refusal.{Refusal}

-- how many bytes a datagram has more than its payload: a salt of k bytes and the tag
abbrev pub overhead : ℕ → ℕ
overhead k = k + tag_length

-- every datagram's nonce: a subkey seals one datagram
abbrev pub zero_nonce : List ℕ
zero_nonce = replicate 12 0

unfoldable pub datagram : (key salt payload : List ℕ) → List ℕ
datagram key salt payload = salt ++ gcm.seal (ciph_of (subkey key salt)) zero_nonce payload

-- ---- sealing: refusals 1, 2 and 3, from the lengths of what is lent, or the datagram's length

-- 2 and 3
unfoldable pub length_answer : (n room : ℕ) → Result ℕ Refusal
length_answer n room = cond (leb n max_datagram) (cond (leb n room) (Ok n) (Err Room)) (Err Length)

unfoldable pub seal_answer : (method key salt payload room : ℕ) → Result ℕ Refusal
seal_answer method key salt payload room =
    cond (settings_fit method key salt) (length_answer (payload + overhead salt) room) (Err Settings)

-- the datagram at the front of the buffer, and nothing for a refusal
abbrev pub seal_out : Result ℕ Refusal → (s out : List ℕ) → List ℕ
seal_out (Ok n) s out = put out 0 s
seal_out (Err r) s out = out

-- ---- opening: refusals 1, 2 and 3, from the lengths of what is lent, and 4 by the tag, or the payload's length

-- 2 and 3, of a datagram of n bytes under a key of k
unfoldable pub due_answer : (k n room : ℕ) → Result ℕ Refusal
due_answer k n room =
    cond (leb (overhead k) n && leb n max_datagram) (cond (leb (n - overhead k) room) (Ok (n - overhead k)) (Err Room)) (Err Length)

unfoldable pub lawful_answer : (method k n room : ℕ) → Result ℕ Refusal
lawful_answer method k n room = cond (key_fits method k) (due_answer k n room) (Err Settings)

-- the subkey of a datagram's own salt
unfoldable pub subkey_of : (key s : List ℕ) → List ℕ
subkey_of key s = subkey key (take (length key) s)

-- whether the tag is that of the ciphertext, and what it decrypts to
unfoldable pub body_authentic : (key s : List ℕ) → Bool
body_authentic key s = authentic (ciph_of (subkey_of key s)) zero_nonce (drop (length key) s)

unfoldable pub payload_of : (key s : List ℕ) → List ℕ
payload_of key s = gcm.opened (ciph_of (subkey_of key s)) zero_nonce (drop (length key) s)

-- a text that is due is given if the tag is good
abbrev pub judged : Result ℕ Refusal → Bool → Result ℕ Refusal
judged (Ok n) true = Ok n
judged (Ok n) false = Err NotAuthentic
judged (Err r) b = Err r

unfoldable pub open_answer : ℕ → (key s : List ℕ) → (room : ℕ) → Result ℕ Refusal
open_answer method key s room = judged (lawful_answer method (length key) (length s) room) (body_authentic key s)

-- the text at the front of the buffer, and nothing for a refusal
abbrev pub open_out : Result ℕ Refusal → (text out : List ℕ) → List ℕ
open_out (Ok n) text out = put out 0 text
open_out (Err r) text out = out
