-- Opening the fixed header of a head: a law for each way out of each function.
-- Assumes nothing.
use Rattle.std.specs.Prelude.{Err, Ok, Result}
use mathlib.Core.Path.{◌≡◌, refl, sym, ap, ◌∙◌}
use mathlib.Core.Bool.{Bool, true, false, cond}
use mathlib.Core.List.{List}
use Prim.Native.Nat.{ℕ, ◌+◌, ◌-◌, ◌≤◌}
use native.Mathlib.Omega.{arith}
use lib.Dec.{eqb}
use lib.ListN.{length, get_or, drop}
use borrow.Author.Tests.{eq-eqb, ne_eqb}
use Rattle.octets.specs.Buffers.{put}
use Rattle.octets.specs.Numbers.{be}
use Rattle.octets.proofs.BufferLaws.{put_whole}
use Rattle.protocol.specs.declared.Refusal.TheVariants.{NotAuthentic, WrongType, WrongTime}
use Rattle.protocol.specs.Time.{time_valid}
use Rattle.stream_pieces.specs.Pieces.{authentic_at, open_at, Keyed}
use Rattle.stream_pieces.proofs.LengthLaws.{length-open_at}
use Rattle.stream_heads.specs.Heads.{fields_of, read_fixed, open_fixed}
use Rattle.stream_heads.specs.declared.Fixed.{Fixed}
use Rattle.protocol.specs.declared.Refusal.{Refusal}

-- ---- what the fixed header says

module _ (kind clock : ℕ) (plain : List ℕ) where
  fixed-at : (a b : Bool) → eqb (get_or plain 0 0) kind ≡ a → time_valid (be 8 (drop 1 plain)) clock ≡ b
      → cond a (cond b (Ok (fields_of plain)) (Err WrongTime)) (Err WrongType) ≡ read_fixed kind clock plain
  unfolding read_fixed
  fixed-at a b ea eb = λ i. cond (sym ea i) (cond (sym eb i) (Ok (fields_of plain)) (Err WrongTime)) (Err WrongType)

  module _ (x : ℕ) (ex : x ≡ get_or plain 0 0) where
    pub fixed-type : (x ≡ kind → ⊥) → Err WrongType ≡ read_fixed kind clock plain
    fixed-type h = fixed-at false _ (ne_eqb _ _ (λ e. h (ex ∙ e))) refl

    module _ (right : x ≡ kind) (t : ℕ) (v : Bool) (et : t ≡ be 8 (drop 1 plain)) (ev : v ≡ time_valid t clock) where
      fixed-timed : (b : Bool) → v ≡ b → cond b (Ok (fields_of plain)) (Err WrongTime) ≡ read_fixed kind clock plain
      fixed-timed b e = fixed-at true b (eq-eqb _ _ (sym ex ∙ right)) (ap (λ (y : ℕ). time_valid y clock) (sym et) ∙ sym ev ∙ e)

      pub fixed-time : v ≡ false → Err WrongTime ≡ read_fixed kind clock plain
      fixed-time e = fixed-timed false e

      pub fixed-read : v ≡ true → (n : ℕ) → n ≡ be 2 (drop (length plain - 2) plain)
          → Ok (record { time = t; length = n }) ≡ read_fixed kind clock plain
      fixed-read e n en = (λ i. Ok (record { time = et i; length = en i })) ∙ fixed-timed true e

-- ---- opened, into a buffer that its plaintext fills

module _ (key : Keyed) (kind clock : ℕ) (s plain : List ℕ) (b : Bool) (o : List ℕ) (eb : b ≡ authentic_at key 0 s)
    (eo : o ≡ cond b (put plain 0 (open_at key 0 s)) plain) (size : length s ≡ length plain + 16)
  where
    fixed-filled : (d : Bool) → b ≡ d → o ≡ cond d (open_at key 0 s) plain
    fixed-filled d e =
        let l : length plain ≤ length (open_at key 0 s) = omega (arith, size, length-open_at key 0 s) in
        eo ∙ (λ i. cond (e i) (put_whole plain (open_at key 0 s) l i) plain)

    fixed_left : o ≡ cond (authentic_at key 0 s) (open_at key 0 s) plain
    fixed_left = fixed-filled b refl ∙ ap (λ (d : Bool). cond d (open_at key 0 s) plain) eb

    fixed-decided : (d : Bool) → b ≡ d → cond d (read_fixed kind clock (open_at key 0 s)) (Err NotAuthentic) ≡ open_fixed key kind clock s
    unfolding open_fixed
    fixed-decided d e = ap (λ (t : Bool). cond t (read_fixed kind clock (open_at key 0 s)) (Err NotAuthentic)) (sym e ∙ eb)

    pub fixed-opened : b ≡ true → (r : Result Fixed Refusal) → r ≡ read_fixed kind clock o
        → (r ≡ open_fixed key kind clock s) × (o ≡ cond (authentic_at key 0 s) (open_at key 0 s) plain)
    fixed-opened e r er = (er ∙ ap (read_fixed kind clock) (fixed-filled true e) ∙ fixed-decided true e, fixed_left)

    pub fixed-forged : b ≡ false
        → (Err NotAuthentic ≡ open_fixed key kind clock s) × (o ≡ cond (authentic_at key 0 s) (open_at key 0 s) plain)
    fixed-forged e = (fixed-decided false e, fixed_left)
