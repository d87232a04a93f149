-- `mending::mend` meets its contract.
-- Assumes nothing.
use mathlib.Core.Path.{refl, ap, ◌∙◌}
use native.Mathlib.Omega.{arith}
use lib.ListN.{length}
use Rattle.mending.proofs.PutLaws.{length-count}
use Rattle.mending.proofs.MendLaws.{count_small}
use Rattle.mending.proofs.LoopLaws.{room-count, room-entries, mended-whole, reported}
use Rattle.mending.proofs.mend.Goals as goal

pub put_change-at-requires : goal.put_change-at-requires
put_change-at-requires c =
    room-count c.args.s.now c.requires.in_bounds _ _ c.count.ensures c.mended_count-n.ensures _ refl
    c.args.out.now c.requires.s_in_bounds

pub put_count-requires : goal.put_count-requires
put_count-requires c =
    (c.requires.in_bounds, omega (arith, c.mended_count-n.ensures, (count_small c.args.s.now c.requires.in_bounds).0))

pub mend_entries-end-requires : goal.mend_entries-end-requires
mend_entries-end-requires c =
    let small = count_small c.args.s.now c.requires.in_bounds in
    let long = ap length c.put_count.ensures ∙ length-count c.args.s.now c.mended_count-n.result c.requires.in_bounds in record {
      n_bound = (omega (arith, c.mended_count-n.ensures, small.0), omega (arith, c.mended_count-n.ensures, small.1, long));
      n_in_bounds = room-entries c.args.s.now c.requires.in_bounds _ _ c.count.ensures c.mended_count-n.ensures _ c.put_count.ensures
          c.args.out.now c.requires.s_in_bounds _ _ c.put_change-at.ensures;
    }

pub returns : goal.returns
returns c =
    let told = reported c.args.s.now c.requires.in_bounds _ _ c.count.ensures c.mended_count-n.ensures _ c.put_count.ensures
    c.args.out.now c.requires.s_in_bounds _ _ c.put_change-at.ensures _ _ c.mend_entries-end.ensures.written in record {
      value = told.0;
      s_after = mended-whole c.args.s.now c.requires.in_bounds _ _ c.count.ensures c.mended_count-n.ensures _ c.put_count.ensures _
          c.mend_entries-end.ensures.s_after;
      written = told.1;
    }
