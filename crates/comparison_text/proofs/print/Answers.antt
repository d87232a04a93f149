-- `comparison_text::print` meets its contract.
-- Assumes nothing.
use mathlib.Core.List.{[], ◌∷◌}
use native.Mathlib.Omega.{arith}
use lib.Dec.{lit<}
use Rattle.comparison_text.specs.Text.{refused_line}
use Rattle.comparison_text.proofs.LineLaws.{length-ended}
use Rattle.comparison_text.proofs.WholeLaws.{not-refused, refusal-small, text-short, unreadable, refused, compared}
use Rattle.comparison_text.proofs.print.Goals as goal

pub put_last-requires : goal.put_last-requires
put_last-requires c =
    omega (arith, c.requires, length-ended (114 ∷ 101 ∷ 102 ∷ 117 ∷ 115 ∷ 101 ∷ 100 ∷ 32 ∷ []) 2 (lit< tt))

pub returns-then-not-readable : goal.returns-then-not-readable
unfolding refused_line
returns-then-not-readable c =
    unreadable _ _ _ _ _ _ (c.if-not-readable.true) c.put_last.ensures

pub overflow_cast-refused : goal.overflow_cast-refused
overflow_cast-refused c =
    record { fits = omega (arith, c.refusal-refused.ensures, refusal-small c.args.first.now c.args.second.now) }

pub put_last-requires-then-refused-ne0 : goal.put_last-requires-then-refused-ne0
put_last-requires-then-refused-ne0 c =
    omega (
      arith,
      c.requires,
      c.refusal-refused.ensures,
      length-ended (114 ∷ 101 ∷ 102 ∷ 117 ∷ 115 ∷ 101 ∷ 100 ∷ 32 ∷ []) c.refusal-refused.result
          (omega (arith, c.refusal-refused.ensures, refusal-small c.args.first.now c.args.second.now)),
    )

pub returns-then-refused-ne0 : goal.returns-then-refused-ne0
unfolding refused_line
returns-then-refused-ne0 c =
    refused _ _ _ _ _ _ (c.if-not-readable.false) _ c.refusal-refused.ensures c.if-refused-ne0.true
    c.put_last-then-refused-ne0.ensures

pub write_text-requires : goal.write_text-requires
write_text-requires c =
    let fit = not-refused c.args.first.now c.args.second.now (omega (arith, c.refusal-refused.ensures)) in record { first_value = (fit.first_good, fit.second-good); second_in_bounds = omega (arith, c.requires, text-short _ _ fit) }

pub returns : goal.returns
returns c =
    compared _ _ _ _ _ _ (c.if-not-readable.false) (omega (arith, c.refusal-refused.ensures)) c.write_text.ensures
