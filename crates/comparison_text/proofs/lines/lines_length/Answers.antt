use mathlib.Core.Path.{◌≡◌, ap}
use native.Mathlib.Omega.{arith}
use borrow.Author.Rules.{rules}
use lib.ListN.{length}
use Rattle.comparison_text.proofs.LineLaws.{line-short}
use Rattle.comparison_text.proofs.TextLaws.{no_lines, length-next}
use Rattle.comparison_text.proofs.lines.lines_length.Goals as goal

pub loop-i-init : goal.loop-i-init
loop-i-init c = (omega (arith, ap length (no_lines c.args.first.now c.args.second.now)), search rules)

pub line_length-total-requires : goal.line_length-total-requires
line_length-total-requires c =
    line-short _ _ _ c.requires.0 c.requires.1 (omega arith) _ c.difference_at-d.ensures

pub overflow_add-total : goal.overflow_add-total
overflow_add-total c =
    record { fits = omega (arith, c.line_length-total.ensures, line-short _ _ c.loop-i.i c.requires.0 c.requires.1 (omega arith) _ c.difference_at-d.ensures) }

pub loop-i-preserved : goal.loop-i-preserved
loop-i-preserved c = (
  omega (arith, c.loop-i.invariant.0, c.line_length-total.ensures, length-next c.args.first.now c.args.second.now c.loop-i.i _ c.difference_at-d.ensures),
  omega (arith, c.loop-i.invariant.1, c.line_length-total.ensures, line-short _ _ c.loop-i.i c.requires.0 c.requires.1 (omega arith) _ c.difference_at-d.ensures),
)

pub returns : goal.returns
returns c =
    let e : c.loop-i.i ≡ c.args.most = omega arith in
    (rw e at c.loop-i.invariant.0, rw e at c.loop-i.invariant.1)
