use mathlib.Core.Path.{◌≡◌}
use mathlib.Core.Bool.{true, false}
use native.Mathlib.Omega.{arith}
use lib.Dec.{eqb}
use Rattle.std.proofs.Common.{rules, tests}
use Rattle.std.proofs.lemmas.Iterator.{first_from_Range}
use Rattle.settings_file.specs.Format.{entry}
use Rattle.settings_file.proofs.FindLaws.{First, first-bound, first-index}
use Rattle.settings_file.proofs.find.Goals as goal

pub returns : goal.returns
returns c =
    let s = c.args.s.now in
    let k = c.args.number in
    let first : First (λ i. eqb (entry s i).number k) c.count.result c.find.result =
    first_from_Range _ _ _ _ (λ i. eqb (entry s i).number k ≡ true) (λ i. eqb (entry s i).number k ≡ false) c.find.ensures.ran
    (λ x q h. grind (arith, tests))
    (λ x q h. (search rules, grind (arith, tests))) in
    record { value = first-index s _ _ c.count.ensures k first; bound = first-bound _ _ _ first (omega arith) }
