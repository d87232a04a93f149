-- `mending_report::put_change` meets its contract.
-- Assumes nothing.
use native.Mathlib.Omega.{arith}
use Rattle.mending_report.proofs.ChangeLaws.{put-nothing, room-four, put_four}
use Rattle.mending_report.proofs.put_change.Goals as goal

pub returns-then-old-new : goal.returns-then-old-new
returns-then-old-new c = put-nothing c.args.out.now _ _ _ _ _ c.requires c.if-old-new.true

pub slice_bounds-copy_from_slice-end : goal.slice_bounds-copy_from_slice-end
slice_bounds-copy_from_slice-end c = omega (arith, room-four c.args.out.now _ _ _ _ _ c.requires c.if-old-new.false)

pub returns : goal.returns
returns c =
    put_four c.args.out.now _ _ _ _ _ c.requires c.if-old-new.false _ _ c.copy_from_slice.ensures.after (omega arith)
