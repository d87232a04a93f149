use mathlib.Core.Path.{ap, ◌∙◌}
use Prim.Native.Nat.{ℕ, ◌+◌, ◌*◌}
use Rattle.poly1305.specs.Limbs.{value}
use Rattle.poly1305.specs.Poly1305.{mod_p}
use Rattle.poly1305.proofs.PrimeLaws.{below-loose}
use Rattle.poly1305.proofs.MessageLaws.{mac-data}
use Rattle.poly1305.proofs.blocks.all_of_aead.Goals as goal

pub step-requires : goal.step-requires
step-requires c = record { loose = c.all_padded-a.ensures.loose; below = c.of_lengths.ensures.below; loose_2 = below-loose c.requires }

pub returns : goal.returns
returns c =
    let a = c.args in
    let r = value a.r in
    let x = mod_p (value c.all_padded-a.result) in record { loose = c.step.ensures.loose_3; result_value = c.step.ensures.result_value ∙ ap (λ (y : ℕ). mod_p ((x + y) * r)) c.of_lengths.ensures.result_value ∙ mac-data r x a.c.now c.all_padded-a.ensures.result_value }
