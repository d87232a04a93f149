-- What planning and checking answer, and what is written.
use Rattle.std.specs.Prelude.{Bool, cond, ◌&&◌, ◌||◌, List, ℕ, ◌+◌, ◌-◌, ◌*◌, eqb, leb, ltb, length, Err, Ok, Result, false, true}
use Rattle.std.proofs.lemmas.List.Edits.{sets}
use Rattle.protocol.specs.declared.Refusal.TheVariants.{Settings, Argument, Room}
use Rattle.socks5.specs.Address.{is_address}
use Rattle.datagram_parts.specs.declared.Side.TheVariants.{Client}
use Rattle.datagram_parts.specs.Headers.{fixed_length}
use Rattle.datagram_parts.specs.Parts.{max_datagram, overhead_of}
use Rattle.plan_pieces.specs.Plans.{words, fewest, passes, made}
use Rattle.protocol.specs.declared.Refusal.{Refusal}

-- what every datagram of a client has besides piece and padding
abbrev pub head_with : (overhead address : ℕ) → ℕ
head_with overhead address = overhead + fixed_length Client + address

abbrev pub head_of : ℕ → List ℕ → ℕ
head_of method address = head_with (overhead_of method) (length address)

-- what a datagram has room for, piece and padding; 0 where that is nothing
abbrev pub most_of : ℕ → List ℕ → ℕ → ℕ
most_of method address limit = limit - head_of method address

-- ---- refusals 1 and 12, of both functions; n is the length of the report

unfoldable pub limit_answer : (most limit n : ℕ) → Result ℕ Refusal
limit_answer most limit n = cond (leb limit max_datagram && (eqb n 0 || ltb 0 most)) (Ok most) (Err Argument)

unfoldable pub argument_answer : ℕ → List ℕ → (limit n : ℕ) → Result ℕ Refusal
argument_answer overhead address limit n =
    cond (is_address address) (limit_answer (limit - head_with overhead (length address)) limit n) (Err Argument)

unfoldable pub capacity_answer : ℕ → List ℕ → (limit n : ℕ) → Result ℕ Refusal
capacity_answer method address limit n =
    cond (eqb (overhead_of method) 0) (Err Settings) (argument_answer (overhead_of method) address limit n)

-- ---- checking

abbrev pub checked_by : Result ℕ Refusal → ℕ → List ℕ → Result Bool Refusal
checked_by (Ok most) n w = cond (passes most n w) (Ok true) (Ok false)
checked_by (Err r) n w = Err r

unfoldable pub check_answer : ℕ → List ℕ → (limit n : ℕ) → List ℕ → Result Bool Refusal
check_answer method address limit n w = checked_by (capacity_answer method address limit n) n w

-- ---- planning, in so many lent words

unfoldable pub room_answer : (k room : ℕ) → Result ℕ Refusal
room_answer k room = cond (leb (2 * k) room) (Ok k) (Err Room)

abbrev pub made_by : Result ℕ Refusal → (n room : ℕ) → Result ℕ Refusal
made_by (Ok most) n room = room_answer (fewest n most) room
made_by (Err r) n room = Err r

unfoldable pub make_answer : ℕ → List ℕ → (limit n room : ℕ) → Result ℕ Refusal
make_answer method address limit n room = made_by (capacity_answer method address limit n) n room

-- the plan at the front of the lent words, and nothing for a refusal
abbrev pub make_out : Result ℕ Refusal → (most n : ℕ) → List ℕ → List ℕ
make_out (Ok k) most n plan = sets plan 0 (words (made most n k))
make_out (Err r) most n plan = plan
