-- The orders of refusals of the 2017 edition's datagrams, as lists to be held beside the scope's own lines, with its numbers written
-- out. Sums are of whole numbers.
-- Assumes nothing.
use Rattle.std.specs.Prelude.{◌≡◌, Bool, not, ◌&&◌, ◌||◌, List, [], ◌∷◌, ℕ, ◌+◌, ◌-◌, eqb, ltb, length, Err, Ok, Result}
use Rattle.octets.specs.Buffers.{same}
use Rattle.gcm.specs.Gcm.{tag}
use Rattle.sip004.specs.Datagram.{seal_answer, open_answer}
use Rattle.protocol.specs.Orders.{Rule, rule, Said, gives, first, refuses_with}
use Rattle.sip004_demands.specs.Datagrams.{cipher, nonce, salt_in, body_in, tag_in}
use Rattle.protocol.specs.declared.Refusal.{Refusal}

abbrev pub said_sealed : Result ℕ Refusal → Said ℕ
said_sealed (Ok n) = gives n
said_sealed (Err r) = refuses_with r

abbrev pub said_opened : Result ℕ Refusal → Said ℕ
said_opened (Ok n) = gives n
said_opened (Err r) = refuses_with r

-- a method other than 11 to 13, or a key of another length than its own
abbrev pub other_key : (method k : ℕ) → Bool
other_key method k = not (eqb method 11 && eqb k 16 || (eqb method 12 && eqb k 24 || eqb method 13 && eqb k 32))

-- sealing, from the lengths of key, salt, payload and buffer: 1, 2, 3
abbrev pub sealed_bytes : (salt payload : ℕ) → ℕ
sealed_bytes salt payload = salt + payload + 16

abbrev pub seal_order : (method key salt payload room : ℕ) → List Rule
seal_order method key salt payload room =
    rule 1 (other_key method key || not (eqb key salt))
    ∷ rule 2 (ltb 65507 (sealed_bytes salt payload))
    ∷ rule 3 (ltb room (sealed_bytes salt payload))
    ∷ []

-- opening: 1, 2, 3, 4
abbrev pub due_bytes : (key s : List ℕ) → ℕ
due_bytes key s = length s - (length key + 16)

abbrev pub open_order : ℕ → (key s : List ℕ) → (room : ℕ) → List Rule
open_order method key s room =
    rule 1 (other_key method (length key))
    ∷ rule 2 (ltb (length s) (length key + 16) || ltb 65507 (length s))
    ∷ rule 3 (ltb room (due_bytes key s))
    ∷ rule 4 (not (same (tag (cipher key (salt_in (length key) s)) nonce (body_in (length key) s)) (tag_in s)))
    ∷ []

pub record DatagramOrders : Type 0 where
  pub sealing : (method key salt payload room : ℕ)
      → said_sealed (seal_answer method key salt payload room) ≡ first (seal_order method key salt payload room) (sealed_bytes salt payload)
  pub opening : (method : ℕ) (key s : List ℕ) (room : ℕ)
      → said_opened (open_answer method key s room) ≡ first (open_order method key s room) (due_bytes key s)
