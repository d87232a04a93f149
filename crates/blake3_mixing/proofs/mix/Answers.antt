use Rattle.std.proofs.Common.{ap, ◌∙◌}
use Rattle.blake3_mixing.specs.declared.Quad.{Quad}
use Rattle.blake3_mixing.specs.Mixing.{half, G}
use Rattle.blake3_mixing.proofs.mix.Goals as goal

pub returns : goal.returns
unfolding G
returns c =
    c.half_mix-2.ensures ∙ ap (λ (q : Quad). half q c.args.y 8 7) c.half_mix.ensures
