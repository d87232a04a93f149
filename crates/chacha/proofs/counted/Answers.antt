use Rattle.std.proofs.Common.{[], ◌∷◌, sym, ◌∙◌, mod-eq_of_lt}
use Rattle.chacha.specs.ChaCha.{initial, counted}
use Rattle.chacha.proofs.counted.Goals as goal

pub returns : goal.returns
unfolding counted
returns c =
    let a = c.args in
    c.initial.ensures
    ∙ (λ i.
    initial a.key.now
    (sym (mod-eq_of_lt c.ranges.counter.fits) i ∷ c.read_u32_le-b.ensures i ∷ c.read_u32_le-c.ensures i ∷ c.read_u32_le-d.ensures i ∷ []))
