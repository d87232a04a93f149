-- `mending_report::put_entry_changes` meets its contract.
-- Assumes nothing.
use Rattle.mending_report.proofs.ChangeLaws.{room-offset, room-len, room-direction, put_three}
use Rattle.mending_report.proofs.put_entry_changes.Goals as goal

pub put_change-j-requires : goal.put_change-j-requires
put_change-j-requires c =
    room-offset c.args.i c.args.e c.args.f c.args.out.now _ c.requires

pub put_change-k-requires : goal.put_change-k-requires
put_change-k-requires c =
    room-len c.args.i c.args.e c.args.f c.args.out.now _ c.requires _ _ c.put_change-j.ensures

pub put_change-requires : goal.put_change-requires
put_change-requires c =
    room-direction c.args.i c.args.e c.args.f c.args.out.now _ c.requires _ _ c.put_change-j.ensures
    _ _ c.put_change-k.ensures

pub returns : goal.returns
returns c =
    put_three c.args.i c.args.e c.args.f c.args.out.now _ c.requires _ _ c.put_change-j.ensures
    _ _ c.put_change-k.ensures _ _ c.put_change.ensures
