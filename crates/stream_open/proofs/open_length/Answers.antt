use mathlib.Core.Path.{refl, sym}
use mathlib.Core.List.{[], ◌∷◌}
use native.Mathlib.Omega.{arith}
use lib.Seq.{length-take-le}
use Rattle.stream_open.proofs.ChunkLaws.{length-counter, length_more, length-good, length-forged}
use Rattle.stream_open.proofs.open_length.Goals as goal

pub returns-then-stream-eq-LAST_COUNTER : goal.returns-then-stream-eq-LAST_COUNTER
returns-then-stream-eq-LAST_COUNTER c = let a = c.args in length-counter a.f a.stream _ _ c.if-stream-eq-LAST_COUNTER.true

pub returns-then-s-lt-LENGTH_PIECE : goal.returns-then-s-lt-LENGTH_PIECE
returns-then-s-lt-LENGTH_PIECE c =
    let a = c.args in
    length_more a.f a.stream _ _ c.if-stream-eq-LAST_COUNTER.false c.if-s-lt-LENGTH_PIECE.true

pub slice_bounds-open_piece-end : goal.slice_bounds-open_piece-end
slice_bounds-open_piece-end c =
    sym (length-take-le 18 c.args.s.now c.if-s-lt-LENGTH_PIECE.false)

pub open_piece-requires : goal.open_piece-requires
open_piece-requires c =
    let n = length-take-le 18 c.args.s.now c.if-s-lt-LENGTH_PIECE.false in record { tag_length_in_bounds = omega (arith, n); s_len_bound = omega (arith, n); tag_length_in_bounds_2 = omega (arith, n) }

pub invariant_of-key : goal.invariant_of-key
invariant_of-key c = record { key_for = c.requires }

pub returns-then-not-open_piece : goal.returns-then-not-open_piece
returns-then-not-open_piece c =
    let a = c.args in
    length-forged a.f a.stream _ _ c.if-stream-eq-LAST_COUNTER.false c.if-s-lt-LENGTH_PIECE.false _ c.open_piece.ensures.value c.if-not-open_piece.true

pub returns : goal.returns
returns c =
    let a = c.args in
    length-good a.f a.stream _ _ c.if-stream-eq-LAST_COUNTER.false c.if-s-lt-LENGTH_PIECE.false _ c.open_piece.ensures.value (0 ∷ 0 ∷ []) _ _ refl
    c.open_piece.ensures.out_after c.read_u16_be.ensures _ c.length_answer.ensures c.if-not-open_piece.false
