use mathlib.Core.Path.{◌≡◌}
use mathlib.Core.Bool.{true, false}
use native.Mathlib.Omega.{arith}
use Rattle.std.proofs.Common.{rules, tests}
use Rattle.std.proofs.lemmas.Iterator.{first_from_Range}
use Rattle.settings_rules.specs.Rules.{is_unknown}
use Rattle.settings_file.specs.Format.{entry}
use Rattle.settings_file.proofs.FindLaws.{First, first-bound, first-unknown}
use Rattle.settings_file.proofs.find_unknown.Goals as goal

pub returns : goal.returns
returns c =
    let s = c.args.s.now in
    let first : First (λ i. is_unknown (entry s i).number) c.count.result c.find.result =
    first_from_Range _ _ _ _ (λ i. is_unknown (entry s i).number ≡ true) (λ i. is_unknown (entry s i).number ≡ false) c.find.ensures.ran
    (λ x q h. grind (arith, tests))
    (λ x q h. (search rules, grind (arith, tests))) in
    record { value = first-unknown s _ _ c.count.ensures first; bound = first-bound _ _ _ first (omega arith) }
