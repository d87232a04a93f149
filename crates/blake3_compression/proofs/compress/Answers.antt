use Rattle.blake3_compression.specs.Compression.{compressed}
use mathlib.Core.Path.{ap, ap₂, ◌∙◌}
use mathlib.Core.List.{List}
use Prim.Native.Nat.{ℕ}
use Rattle.blake3_compression.specs.Compression.{final, rounds, initial}
use Rattle.blake3_compression.proofs.CompressionLaws.{sixteen-rounds}
use Rattle.blake3_compression.proofs.compress.Goals as goal

pub returns : goal.returns
unfolding compressed
returns c =
    let a = c.args in
    c.finish.ensures
    ∙ ap (λ (v : List ℕ). final v a.h)
    (c.seven_rounds.ensures ∙ ap₂ (rounds 7) c.start.ensures c.columns_of.ensures ∙ sixteen-rounds (initial a.h a.t a.b a.d) a.m)
