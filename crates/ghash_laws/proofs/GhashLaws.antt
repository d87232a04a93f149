-- GHASH from any Y₀ is linear.
-- Assumes nothing.
use mathlib.Core.Path.{◌≡◌, refl, ap, ◌∙◌}
use mathlib.Core.List.{List, [], ◌∷◌}
use Prim.Native.Nat.{ℕ}
use native.Mathlib.Omega.{arith}
use lib.ListN.{length}
use Rattle.octets.specs.Buffers.{◌⊞◌}
use Rattle.octets.proofs.XorLaws.{xor-medial}
use Rattle.ghash.specs.Ghash.{ghash_from}
use Rattle.ghash.proofs.FieldLaws.{mul-xor-left}
use Rattle.ghash_laws.specs.Laws.{◌⊕◌, ◌•◌}

pub from-linear : (h y z : ℕ) (xs ys : List ℕ) → length xs ≡ length ys
    → ghash_from h (y ⊕ z) (xs ⊞ ys) ≡ ghash_from h y xs ⊕ ghash_from h z ys
unfolding ghash_from ◌⊞◌
from-linear h y z [] [] e = refl
from-linear h y z [] (b ∷ ys) e = absurd (omega arith)
from-linear h y z (a ∷ xs) [] e = absurd (omega arith)
from-linear h y z (a ∷ xs) (b ∷ ys) e =
    ap (λ (w : ℕ). ghash_from h w (xs ⊞ ys)) (ap (λ (w : ℕ). w • h) (xor-medial y z a b) ∙ mul-xor-left (y ⊕ a) (z ⊕ b) h)
    ∙ from-linear h ((y ⊕ a) • h) ((z ⊕ b) • h) xs ys (omega arith)
