-- Words that are held mean the state that they were written for, and a state that moves moves its words along. Assumes nothing.
use Prim.Native.Nat.{ℕ, ◌<◌, ◌≤◌}
use native.Mathlib.Omega.{arith}
use native.Mathlib.Nat.{mod-eq_of_lt}
use mathlib.Core.Bool.{true}
use mathlib.Core.List.{List}
use mathlib.Core.Path.{◌≡◌, refl, ap}
use borrow.Author.Tests.{le-leb}
use lib.ListN.{length, get_or, set}
use lib.Seq.{get_or-set_same, get_or-set_other}
use Rattle.datagram_parts.specs.declared.Side.{Side}
use Rattle.datagram_parts.specs.declared.Side.TheVariants.{Client, Server}
use Rattle.datagram_seal.specs.declared.Sender.{Sender as Session}
use Rattle.stream_seal.specs.declared.Sender.{Sender}
use Rattle.stream_open.specs.declared.Turn.{Turn}
use Rattle.stream_open.specs.declared.Turn.TheVariants.{Variable, Length, Payload, Ended}
use Rattle.stream_open.specs.declared.Receiver.{Receiver}
use Rattle.stream_open.specs.Chunks.{ended}
use Rattle.words.specs.States.{session_size, session_lawful, side_in, session_in, side_number, client_of, session_words, stream_size, sender_in, sender_words, receiver_lawful, turn_lawful, turn_in, receiver_in, turn_number, turn_length, receiver_words}

-- ---- sending sessions

side-held : (x : Side) → side_in (side_number x) (client_of x) ≡ x
side-held Client = refl
side-held (Server client) = refl

pub session-held : (s : Session) → session_in (session_words s) ≡ s
session-held s = λ i. record { side = side-held s.side i; id = s.id; packet = s.packet }

pub session-good : (s : Session) → session_lawful (session_words s) ≡ true
session-good s = lawful s.side
  where
    lawful : (x : Side) → session_lawful (session_words (record { side = x; id = s.id; packet = s.packet })) ≡ true
    lawful Client = refl
    lawful (Server client) = refl

-- one packet ID further
pub session-moved : (w : List ℕ) (p : ℕ) → length w ≡ session_size
    → session_in (set w 3 p) ≡ record { side = (session_in w).side; id = (session_in w).id; packet = p }
session-moved w p e =
    let l : 3 < length w = omega arith in
    λ i. record {
      side = side_in (get_or-set_other w 3 0 p 0 (λ x. omega (arith, x)) i) (get_or-set_other w 3 2 p 0 (λ x. omega (arith, x)) i);
      id = get_or-set_other w 3 1 p 0 (λ x. omega (arith, x)) i;
      packet = get_or-set_same w 3 p 0 l i;
    }

-- ---- streams

pub sender-held : (s : Sender) → sender_in (sender_words s) ≡ s
sender-held s = refl

turn-held : (t : Turn) → turn_length t < 65536 → turn_in (turn_number t) (turn_length t) ≡ t
turn-held Length l = refl
turn-held (Payload n) l = ap Payload (mod-eq_of_lt l)
turn-held Ended l = refl
turn-held (Variable n) l = ap Variable (mod-eq_of_lt l)

good : (t : Turn) → turn_length t < 65536 → turn_lawful (turn_number t) (turn_length t) ≡ true
good Length l = refl
good (Payload n) l =
    let h : n ≤ 65535 = omega arith in
    le-leb n 65535 h
good Ended l = refl
good (Variable n) l =
    let h : n ≤ 65535 = omega arith in
    le-leb n 65535 h

-- a length to come is that of two bytes
module _ (s : Receiver) (l : turn_length s.turn < 65536) where
  pub receiver-held : receiver_in (receiver_words s) ≡ s
  receiver-held = λ i. record { method = s.method; turn = turn-held s.turn l i; counter = s.counter; subkey = s.subkey }

  pub receiver-good : receiver_lawful (receiver_words s) ≡ true
  receiver-good = good s.turn l

-- a stream that ends keeps its other words
pub receiver-ended : (w : List ℕ) → length w ≡ stream_size → receiver_in (set w 0 0) ≡ ended (receiver_in w)
receiver-ended w e =
    let l : 0 < length w = omega arith in
    let at : (j : ℕ) → (j ≡ 0 → ⊥) → get_or (set w 0 0) j 0 ≡ get_or w j 0 = λ j n. get_or-set_other w 0 j 0 0 n in
    λ i. record {
      method = at 1 (λ x. omega (arith, x)) i;
      turn = turn_in (get_or-set_same w 0 0 0 l i) (at 3 (λ x. omega (arith, x)) i);
      counter = at 2 (λ x. omega (arith, x)) i;
      subkey = record {
        a = at 4 (λ x. omega (arith, x)) i;
        b = at 5 (λ x. omega (arith, x)) i;
        c = at 6 (λ x. omega (arith, x)) i;
        d = at 7 (λ x. omega (arith, x)) i;
      };
    }
