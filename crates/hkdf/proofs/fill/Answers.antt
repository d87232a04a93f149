use mathlib.Core.Path.{refl, ◌∙◌}
use Rattle.hkdf.proofs.BufferLaws.{laid-first}
use borrow.Author.Rules.{rules}
use Rattle.hkdf.proofs.fill.Goals as goal

pub returns : goal.returns
returns c = λ prk ek.
    let info = c.args.info.now in
    c.blocks-2.ensures prk info ek refl (c.copy.ensures ∙ laid-first info (search rules))
