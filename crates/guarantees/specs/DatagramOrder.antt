-- The refusals of a call that opens a datagram, in their order, each with its condition, in the words of what is lent and of SIP022's bytes.
use Rattle.std.specs.Prelude.{Bool, true, false, cond, not, ◌&&◌, ◌||◌, List, [], ◌∷◌, ℕ, ◌+◌, ◌-◌, ◌*◌, eqb, leb, ltb, length, get_or, drop, None, Option, Some}
use Rattle.octets.specs.Numbers.{be}
use Rattle.records.specs.Records.{lowest_from}
use Rattle.protocol.specs.Method.{cipher_of}
use Rattle.protocol.specs.Time.{time_valid}
use Rattle.session_window.specs.Window.{bit, join4}
use Rattle.socks5.specs.Address.{parse_at}
use Rattle.datagram_read.specs.Opening.{datagram_authentic, plain_of, session_of, packet_of}
use Rattle.guarantees.specs.Calls.{Lent, Opening, at}
use Rattle.socks5.specs.declared.Address.{Address}

-- the first number of a list whose condition holds, and 0 where none does
abbrev pub first_refusal : List (ℕ × Bool) → ℕ
first_refusal [] = 0
first_refusal (r ∷ rs) = cond r.1 r.0 (first_refusal rs)

-- methods 3 to 5: a nonce of 24 bytes begins a datagram, and the IDs open its plaintext
abbrev with_nonce : ℕ → Bool
with_nonce method = eqb method 3 || (eqb method 4 || eqb method 5)

-- a server's datagram has the client's session ID at place 9 of its main header
abbrev fixed_bytes : Option ℕ → ℕ
fixed_bytes None = 11
fixed_bytes (Some id) = 19

abbrev type_byte : Option ℕ → ℕ
type_byte None = 0
type_byte (Some id) = 1

abbrev for_another : Option ℕ → ℕ → Bool
for_another None id = false
for_another (Some ours) id = not (eqb id ours)

abbrev no_address : Option Address → Bool
no_address (Some a) = false
no_address None = true

-- the record of a session in a table: the lowest of the 64 that is in use, has the ID, and whose last time is not past by more than R
abbrev pub alive : List ℕ → (clock i : ℕ) → Bool
alive t clock i = not (eqb (at t (1 + i * 13)) 0) && leb clock (at t (1 + i * 13 + 3) + at t 0)

unfoldable pub record_of : List ℕ → (clock id : ℕ) → Option ℕ
record_of t clock id = lowest_from (λ i. alive t clock i && eqb (at t (1 + i * 13 + 1)) id) 0 64

-- the lowest record that is not alive
unfoldable pub free_record : List ℕ → (clock : ℕ) → Option ℕ
free_record t clock = lowest_from (λ i. not (alive t clock i)) 0 64

-- bit d of a record's four words of marks, as one number, marks the packet ID d below its highest
abbrev pub marked : List ℕ → (i d : ℕ) → Bool
marked t i d = bit (join4 (at t (1 + i * 13 + 4)) (at t (1 + i * 13 + 5)) (at t (1 + i * 13 + 6)) (at t (1 + i * 13 + 7))) d

-- a packet ID is above the highest of its session, or less than 256 below it and not marked; or no session of the ID is alive, and a record is free
abbrev pub not_fresh : Option ℕ → List ℕ → ℕ → Bool
not_fresh (Some i) t packet =
    not (ltb (at t (1 + i * 13 + 2)) packet || ltb (at t (1 + i * 13 + 2) - packet) 256 && not (marked t i (at t (1 + i * 13 + 2) - packet)))
not_fresh None t packet = false

abbrev pub no_record : (session free : Option ℕ) → Bool
no_record (Some i) free = false
no_record None (Some i) = false
no_record None None = true

module _ (o : Opening) (m : Lent) where
  abbrev besides : ℕ
  besides = cond (with_nonce o.method) 40 32

  abbrev start : ℕ
  start = cond (with_nonce o.method) 16 0

  abbrev plain : List ℕ
  plain = plain_of (cipher_of o.method) o.key o.datagram

  abbrev padding : ℕ
  padding = be 2 (drop (start + fixed_bytes o.client - 2) plain)

  abbrev session : Option ℕ
  session = record_of m.table o.clock (session_of (cipher_of o.method) o.key o.datagram)

  abbrev pub open_rules : List (ℕ × Bool)
  open_rules =
      (1, not (eqb (length m.answer) 9))
      ∷ (
        1,
        not (eqb (length m.table) 833 && (leb 60 (at m.table 0) && leb (at m.table 0) 3600))
            || not (eqb o.method 1 && eqb (length o.key) 16 || (eqb o.method 2 || with_nonce o.method) && eqb (length o.key) 32),
      )
      ∷ (2, ltb (length o.datagram) besides || ltb 65507 (length o.datagram))
      ∷ (3, ltb (length m.out) (length o.datagram - besides))
      ∷ (4, not (datagram_authentic (cipher_of o.method) o.key o.datagram))
      ∷ (5, ltb (length plain) (start + fixed_bytes o.client))
      ∷ (6, not (eqb (get_or plain start 0) (type_byte o.client)))
      ∷ (7, not (time_valid (be 8 (drop (start + 1) plain)) o.clock))
      ∷ (13, for_another o.client (be 8 (drop (start + 9) plain)))
      ∷ (5, no_address (parse_at plain (start + fixed_bytes o.client + padding)))
      ∷ (8, not_fresh session m.table (packet_of (cipher_of o.method) o.key o.datagram))
      ∷ (9, no_record session (free_record m.table o.clock))
      ∷ []
