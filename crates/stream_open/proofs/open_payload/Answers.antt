use mathlib.Core.Path.{refl, sym}
use Prim.Native.Nat.{◌+◌}
use native.Mathlib.Omega.{arith}
use lib.Seq.{length-take-le}
use Rattle.stream_open.proofs.ChunkLaws.{payload-over, payload-under, payload-counter, payload-more, payload-room, payload-good, payload-forged}
use Rattle.stream_open.proofs.open_payload.Goals as goal
use Rattle.stream_open.proofs.open_payload.Goals.{then-f-due-via-then-f-due, then-f-due-via-else-f-due+then-due-f}

pub returns-then-f-due-clause-value : goal.returns-then-f-due-clause-value
returns-then-f-due-clause-value c =
    let a = c.args in
    elim c.then-f-due.branch [
      | then-f-due-via-then-f-due w ↦ (payload-over a.f a.stream a.n _ refl _ _ (omega (arith, c.ranges.n.fits)) w.if-f-due.true).0
      | then-f-due-via-else-f-due+then-due-f w ↦ (payload-under a.f a.stream a.n _ refl _ _ w.if-f-due.false w.if-due-f.true).0
    ]

pub returns-then-stream-eq-LAST_COUNTER : goal.returns-then-stream-eq-LAST_COUNTER
returns-then-stream-eq-LAST_COUNTER c =
    let a = c.args in let all = payload-counter a.f a.stream a.n _ refl _ _ c.if-f-due.false c.if-due-f.false c.if-stream-eq-LAST_COUNTER.true in record { value = all.0; out_after = all.1 }

pub returns-then-s-due : goal.returns-then-s-due
returns-then-s-due c =
    let a = c.args in let all = payload-more a.f a.stream a.n _ refl a.s.now a.out.now c.if-f-due.false c.if-due-f.false c.if-stream-eq-LAST_COUNTER.false
    c.if-s-due.true in record { value = all.0; out_after = all.1 }

pub returns-then-out-due : goal.returns-then-out-due
returns-then-out-due c =
    let a = c.args in let all = payload-room a.f a.stream a.n _ refl _ _ c.if-f-due.false c.if-due-f.false c.if-stream-eq-LAST_COUNTER.false c.if-s-due.false c.if-out-due.true in record { value = all.0; out_after = all.1 }

pub slice_bounds-open_piece-end : goal.slice_bounds-open_piece-end
slice_bounds-open_piece-end c = sym (length-take-le _ _ c.if-s-due.false)

pub open_piece-requires : goal.open_piece-requires
open_piece-requires c =
    let n = length-take-le (c.args.n + 16) c.args.s.now c.if-s-due.false in record { tag_length_in_bounds = omega (arith, n); s_len_bound = omega (arith, n, c.ranges.n.fits); tag_length_in_bounds_2 = omega (arith, n, c.if-out-due.false) }

pub invariant_of-key : goal.invariant_of-key
invariant_of-key c = record { key_for = c.requires }

pub returns-then-not-open_piece : goal.returns-then-not-open_piece
returns-then-not-open_piece c =
    let a = c.args in let all = payload-forged a.f a.stream a.n _ refl _ _ c.if-f-due.false c.if-due-f.false c.if-stream-eq-LAST_COUNTER.false c.if-s-due.false c.if-out-due.false _ _
    c.open_piece.ensures.value c.open_piece.ensures.out_after c.if-not-open_piece.true in record { value = all.0; out_after = all.1 }

pub returns : goal.returns
returns c =
    let a = c.args in let all = payload-good a.f a.stream a.n _ refl _ _ c.if-f-due.false c.if-due-f.false c.if-stream-eq-LAST_COUNTER.false c.if-s-due.false c.if-out-due.false _ _
    c.open_piece.ensures.value c.open_piece.ensures.out_after c.if-not-open_piece.false in record { value = all.0; out_after = all.1 }
