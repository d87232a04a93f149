use mathlib.Core.Path.{ap, ◌∙◌}
use Prim.Native.Nat.{ℕ, ◌*◌}
use lib.Dec.{lit≤}
use Rattle.poly1305.specs.Limbs.{value}
use Rattle.poly1305.specs.Poly1305.{mod_p}
use Rattle.poly1305.proofs.PrimeLaws.{loose-below, below_more, sum_below, sum-value, mod-step}
use Rattle.poly1305.proofs.limbs.step.Goals as goal

pub plus-requires : goal.plus-requires
plus-requires c = record { below = loose-below _ (lit≤ tt) c.requires.loose; below_2 = below_more _ _ (lit≤ tt) c.requires.below }

pub product-requires : goal.product-requires
product-requires c = record { below = sum_below c.requires.loose c.requires.below c.plus.ensures; loose = c.requires.loose_2 }

pub carry-requires : goal.carry-requires
carry-requires c = below_more _ _ (lit≤ tt) c.product.ensures.below_2

pub returns : goal.returns
returns c =
    let a = c.args in record {
      loose_3 = c.carry.ensures.loose;
      result_value = c.carry.ensures.result_value ∙ c.product.ensures.result_value ∙ ap (λ (x : ℕ). mod_p (x * value a.r)) (sum-value c.plus.ensures)
          ∙ mod-step (value a.a) (value a.n) (value a.r);
    }
