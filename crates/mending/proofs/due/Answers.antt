-- `mending::due` meets its contract.
-- Assumes nothing.
use native.Mathlib.Omega.{arith}
use Rattle.mending.proofs.MendLaws.{count_small}
use Rattle.mending.proofs.LoopLaws.{whole-due}
use Rattle.mending.proofs.due.Goals as goal

pub count_changes-requires : goal.count_changes-requires
count_changes-requires c =
    let small = count_small c.args.s.now c.requires in
    (omega (arith, c.mended_count-n.ensures, small.0), omega (arith, c.mended_count-n.ensures, small.1))

pub overflow_add-result : goal.overflow_add-result
overflow_add-result c =
    record {
      fits = omega (
        arith,
        c.count_changes.ensures.1,
        c.field_count-first.ensures.1,
        c.mended_count-n.ensures,
        (count_small c.args.s.now c.requires).0,
      );
    }

pub overflow_mul-result : goal.overflow_mul-result
overflow_mul-result c =
    record {
      fits = omega (
        arith,
        c.count_changes.ensures.1,
        c.field_count-first.ensures.1,
        c.mended_count-n.ensures,
        (count_small c.args.s.now c.requires).0,
      );
    }

pub returns : goal.returns
returns c =
    whole-due c.args.s.now c.requires _ _ c.count.ensures c.mended_count-n.ensures _ _
    c.field_count-first.ensures.0 c.count_changes.ensures.0
