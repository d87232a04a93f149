-- Each return is one case of the tests.
use mathlib.Core.Path.{sym}
use Prim.Native.Nat.{◌+◌}
use native.Mathlib.Omega.{arith}
use lib.Seq.{length-take-le}
use Rattle.stream_pieces.specs.PieceKeys.{keyed_of}
use Rattle.stream_open_variable.proofs.VariableLaws.{header-more, header-room, header-forged, header-done}
use Rattle.stream_open_variable.proofs.open_header.Goals as goal

pub returns-then-s-due : goal.returns-then-s-due
returns-then-s-due c =
    let a = c.args in let all = header-more (keyed_of a.key) a.n a.s.now a.out.now c.if-s-due.true in record { value = all.0; out_after = all.1 }

pub returns-then-out-due : goal.returns-then-out-due
returns-then-out-due c =
    let a = c.args in let all = header-room (keyed_of a.key) a.n a.s.now a.out.now c.if-s-due.false c.if-out-due.true in record { value = all.0; out_after = all.1 }

pub slice_bounds-open_piece-end : goal.slice_bounds-open_piece-end
slice_bounds-open_piece-end c = sym (length-take-le _ _ c.if-s-due.false)

pub open_piece-requires : goal.open_piece-requires
open_piece-requires c =
    let l = length-take-le (c.args.n + 16) c.args.s.now c.if-s-due.false in record { tag_length_in_bounds = omega (arith, l); s_len_bound = omega (arith, l, c.ranges.n.fits); tag_length_in_bounds_2 = omega (arith, l, c.if-out-due.false) }

pub slice_bounds-read_variable-end : goal.slice_bounds-read_variable-end
slice_bounds-read_variable-end c = omega (arith, c.open_piece.auto, c.if-out-due.false)

pub slice_bounds-read_variable-end-2 : goal.slice_bounds-read_variable-end-2
slice_bounds-read_variable-end-2 c =
    sym (length-take-le _ _ (omega (arith, c.open_piece.auto, c.if-out-due.false)))

pub returns-then-not-open_piece : goal.returns-then-not-open_piece
returns-then-not-open_piece c =
    let a = c.args in let all = header-forged (keyed_of a.key) a.n a.s.now a.out.now c.if-s-due.false c.if-out-due.false _ _ c.open_piece.ensures.value
    c.open_piece.ensures.out_after c.if-not-open_piece.true in record { value = all.0; out_after = all.1 }

pub returns : goal.returns
returns c =
    let a = c.args in let all = header-done (keyed_of a.key) a.n a.s.now a.out.now c.if-s-due.false c.if-out-due.false _ _ c.open_piece.ensures.value
    c.open_piece.ensures.out_after c.if-not-open_piece.false _ _ c.read_variable-answer.ensures c.clear_refused.ensures in record { value = all.0; out_after = all.1 }
