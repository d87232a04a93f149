use mathlib.Core.Path.{sym, ap}
use mathlib.Core.Bool.{Bool, cond}
use Rattle.ghash_four.specs.Four.{word_of}
use borrow.Author.Tests.{eq-eqb, ne_eqb}
use Rattle.ghash_four.proofs.word.Goals as goal

pub returns-then-i-eq0 : goal.returns-then-i-eq0
unfolding word_of
returns-then-i-eq0 c =
    let x = c.args.x in
    sym (ap (λ (b : Bool). cond b x.lo x.hi) (eq-eqb _ _ c.if-i-eq0.true))

pub returns-else-i-eq0 : goal.returns-else-i-eq0
unfolding word_of
returns-else-i-eq0 c =
    let x = c.args.x in
    sym (ap (λ (b : Bool). cond b x.lo x.hi) (ne_eqb _ _ c.if-i-eq0.false))
