use Rattle.std.proofs.Common.{[], ◌∷◌, ◌++◌}
use Rattle.chacha.specs.ChaCha.{constants, initial}
use Rattle.chacha.proofs.initial.Goals as goal

pub returns : goal.returns
unfolding initial
returns c =
    let a = c.args in
    λ i.
    constants
    ++ (c.read_u32_le.ensures i
    ∷ c.read_u32_le-2.ensures i
    ∷ c.read_u32_le-3.ensures i
    ∷ c.read_u32_le-4.ensures i
    ∷ c.read_u32_le-5.ensures i
    ∷ c.read_u32_le-6.ensures i
    ∷ c.read_u32_le-7.ensures i
    ∷ c.read_u32_le-8.ensures i
    ∷ a.a
    ∷ a.b
    ∷ a.c
    ∷ a.d
    ∷ [])
