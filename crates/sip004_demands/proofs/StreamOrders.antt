-- A step and the sealing of a chunk answer by their orders.
-- Assumes nothing.
use Rattle.std.specs.Prelude.{None, Some}
use mathlib.Core.Path.{◌≡◌, refl, sym, ◌∙◌}
use mathlib.Core.Bool.{Bool, true, false, cond, not, ◌||◌, or-false}
use mathlib.Core.List.{List, [], ◌∷◌}
use Prim.Native.Nat.{ℕ, ◌+◌, ◌-◌, ◌^◌}
use lib.Dec.{eqb, ltb}
use lib.ListN.{length, take}
use Rattle.octets.specs.Numbers.{be}
use Rattle.protocol.specs.Orders.{rule, more, first}
use Rattle.protocol.proofs.OrderLaws.{next, unless, done, stops, passes, split}
use Rattle.stream_pieces.specs.Framing.{under, unframed}
use Rattle.stream_pieces.specs.Pieces.{authentic_at, open_at, last_counter}
use Rattle.stream_seal.specs.declared.Sender.{Sender}
use Rattle.stream_seal.specs.Sealing.{moved, framed_answer}
use Rattle.stream_open.specs.declared.Turn.{Turn}
use Rattle.stream_open.specs.declared.Turn.TheVariants.{Variable, Length, Payload, Ended}
use Rattle.stream_open.specs.declared.Receiver.{Receiver}
use Rattle.stream_open.specs.Steps.{length_read, length_answer, turn_answer}
use Rattle.stream_open.specs.Steps as steps
use Rattle.stream_chunks.specs.Orders.{is_ended, text_bytes, due_bytes, length_told, said_step, said_piece}
use Rattle.stream_chunks.proofs.ChunkOrders.{piece-order, size-order}
use Rattle.sip004.specs.Method.{aes128, aes192, aes256, method_of, key_in, key_length}
use Rattle.sip004_stream.specs.Streams.{max_payload, framing_of, stream_key, step_answer, chunk_answer}
use Rattle.sip004_demands.proofs.FramingLaws.{none-under}
use Rattle.sip004_demands.specs.StreamOrders.{other_method, no_step, long_length, step_order, chunk_opened, seal_order, chunk_sealed, StreamOrders}

other-method : (method : ℕ) → other_method method ≡ eqb (key_length method) 0
unfolding key_length method_of
other-method method = go (eqb method 11) (eqb method 12) (eqb method 13)
  where
    go : (a b c : Bool) → not (a || (b || c)) ≡ eqb (key_in (cond a (Some aes128) (cond b (Some aes192) (cond c (Some aes256) None)))) 0
    go true b c = refl
    go false true c = refl
    go false false true = refl
    go false false false = refl

-- no length is under the least, so its test falls away
over-alone : (method n : ℕ) → ltb 16383 n ≡ unframed (framing_of method) n
over-alone method n = sym (or-false (ltb 16383 n)) ∙ (λ i. ltb 16383 n || sym (none-under method n) i)

module _ (st : Receiver) (s : List ℕ) (room : ℕ) where
  length-order : (n : ℕ)
      → said_step (length_answer (framing_of st.method) n) ≡ first (rule 5 (ltb 16383 n) ∷ []) (record { used = 18; length = n })
  length-order n =
      unless said_step (under (framing_of st.method) n) (rule 14 false) _ (record { used = 18; length = n }) (sym (none-under st.method n)) refl (λ _.
      unless said_step (ltb 16383 n) _ [] _ refl refl λ _. done _)
      ∙ sym (passes 14 _ _)

  step-order : said_step (step_answer st s room) ≡ first (step_order st s room) (chunk_opened st s room)
  unfolding steps.step_answer length_read
  step-order =
      (unless said_step (eqb (key_length st.method) 0) (rule 1 (other_method st.method)) _ (chunk_opened st s room) (other-method st.method) refl λ _.
      at st.turn)
      ∙ split 1 (other_method st.method) (no_step st.turn) _ _
    where
      at : (u : Turn) → said_step (turn_answer (framing_of st.method) u st s room)
          ≡ first
          (rule 1 (no_step u) ∷ rule 4 (is_ended u) ∷ rule 11 (eqb st.counter (2 ^ 64 - 1)) ∷ more (text_bytes u + 16) (ltb (length s) (text_bytes u + 16))
          ∷ rule 3 (ltb room (due_bytes u)) ∷ rule 4 (not (authentic_at (stream_key st) st.counter (take (text_bytes u + 16) s)))
          ∷ rule 5 (long_length u (be 2 (open_at (stream_key st) st.counter (take (text_bytes u + 16) s)))) ∷ [])
          (record {
            used = text_bytes u + 16;
            length = length_told u (be 2 (open_at (stream_key st) st.counter (take (text_bytes u + 16) s)));
          })
      at Length =
          piece-order (stream_key st) st.counter s room 2 0 (length_answer (framing_of st.method) (length_read (stream_key st) st.counter s)) _ _
          (length-order (length_read (stream_key st) st.counter s))
          ∙ passes 4 _ _ ∙ passes 1 _ _
      at (Payload m) =
          unless said_step (unframed (framing_of st.method) m) _ _ _ (over-alone st.method m) refl λ _.
          piece-order (stream_key st) st.counter s room m m _ _ _ (done _ ∙ passes 5 [] _) ∙ passes 4 _ _
      at Ended = stops 4 _ _ ∙ passes 1 _ _
      at (Variable m) = stops 1 _ _

seal-order : (s : Sender) (payload room : ℕ) → said_piece (chunk_answer s payload room) ≡ first (seal_order s payload room) (chunk_sealed s payload room)
unfolding framed_answer
seal-order s payload room =
    unless said_piece (eqb (key_length s.method) 0) _ _ _ (other-method s.method) refl λ _.
    unless said_piece (under (framing_of s.method) payload) (rule 14 false) _ _ (sym (none-under s.method payload)) refl (λ _.
    next said_piece (ltb s.counter (last_counter - 1)) _ _ _ refl refl λ _. size-order max_payload payload 18 room (moved s))
    ∙ sym (passes 14 _ _)

pub stream-orders : StreamOrders
stream-orders = record { step = step-order; sealing = seal-order }
