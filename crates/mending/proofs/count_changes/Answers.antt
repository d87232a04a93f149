use mathlib.Core.Path.{refl, ap}
use native.Mathlib.Omega.{arith}
use borrow.Author.Rules.{rules}
use lib.ListN.{length}
use Rattle.recording.specs.Format.{place_of}
use Rattle.mending.proofs.ReportLaws.{none_left}
use Rattle.mending.proofs.LoopLaws.{all_left, turn_small, due-more}
use Rattle.mending.proofs.count_changes.Goals as goal

pub loop-i-init : goal.loop-i-init
loop-i-init c = (
  omega arith,
  omega arith,
  search rules,
  omega (arith, ap length (all_left c.args.n c.args.s.now 0 (place_of c.args.n) refl).1),
)

pub mended_entry-new-requires : goal.mended_entry-new-requires
mended_entry-new-requires c = (omega arith, omega arith)

pub overflow_add-place-in-loop-i : goal.overflow_add-place-in-loop-i
overflow_add-place-in-loop-i c =
    record { fits = omega (arith, (turn_small _ _ _ _ _ c.read_entry-old.ensures c.mended_entry-new.ensures).0) }

pub loop-i-preserved : goal.loop-i-preserved
loop-i-preserved c =
    let small = turn_small c.args.s.now c.loop-i.i c.loop-i.place _ _ c.read_entry-old.ensures c.mended_entry-new.ensures in (
      omega (arith, small.1),
      omega (arith, small.0),
      omega (arith, c.entry_count-total.ensures.1),
      omega (
        arith,
        c.loop-i.invariant.3,
        due-more c.args.s.now c.loop-i.i c.loop-i.place _ _ c.read_entry-old.ensures c.mended_entry-new.ensures c.args.n
            (omega arith) c.loop-i.total c.entry_count-total.result c.entry_count-total.ensures.0,
      ),
    )

pub returns : goal.returns
returns c = (
  omega (arith, c.loop-i.invariant.3, ap length (none_left c.args.n c.args.s.now c.loop-i.i c.loop-i.place (omega arith))),
  omega (arith, c.loop-i.invariant.2),
)
