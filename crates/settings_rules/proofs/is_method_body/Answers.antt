use mathlib.Core.Path.{sym, ap, ◌∙◌}
use native.Mathlib.Omega.{arith}
use lib.ListN.{length}
use borrow.Author.Tests.{eq-eqb}
use Rattle.octets.proofs.NumberLaws.{be-one}
use Rattle.settings_rules.specs.Rules.{is_method, lawful_method}
use Rattle.settings_rules.proofs.is_method_body.Goals as goal

pub returns-then-body-eq1 : goal.returns-then-body-eq1
unfolding lawful_method
returns-then-body-eq1 c =
    let b = c.args.body.now in
    rw (eq-eqb (length b) 1 (omega arith)) (c.is_method.ensures ∙ ap is_method (c.byte_or_zero.ensures ∙ sym (be-one b 0)))
