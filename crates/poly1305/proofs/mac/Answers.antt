use mathlib.Core.Path.{ap, ap₂, ◌∙◌}
use Prim.Native.Nat.{ℕ, ◌+◌}
use Rattle.octets.specs.Numbers.{to_le}
use Rattle.poly1305.specs.Poly1305.{mac, poly}
use Rattle.poly1305.proofs.mac.Goals as goal

pub returns : goal.returns
unfolding mac
returns c =
    let a = c.args in
    c.finish.ensures
    ∙ ap (to_le 16)
    (ap₂ (λ (x y : ℕ). x + y) (c.all-a.ensures.result_value ∙ ap (λ (r : ℕ). poly r a.s.now) c.clamped.ensures.result_value) c.second_half.ensures.result_value)
