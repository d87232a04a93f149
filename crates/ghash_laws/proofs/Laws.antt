-- The laws of GCM's product and of GHASH.
-- Assumes nothing.
use mathlib.Core.Path.{sym, ap, ◌∙◌}
use Prim.Native.Nat.{ℕ}
use native.Mathlib.Omega.{arith}
use lib.Dec.{lit<}
use Rattle.ghash.specs.Ghash.{ghash}
use Rattle.ghash.proofs.FieldLaws.{mul-xor-left}
use Rattle.ghash_laws.specs.Laws.{◌•◌, one, Closed, LeftDistributive, RightDistributive, LeftIdentity, RightIdentity, Commutative, Associative, GhashLinear}
use Rattle.ghash_laws.proofs.SwapLaws.{mul-xor-right, mul-swap}
use Rattle.ghash_laws.proofs.BlockLaws.{mul-block}
use Rattle.ghash_laws.proofs.OneLaws.{times-one}
use Rattle.ghash_laws.proofs.GhashLaws.{from-linear}

pub closed : Closed
closed x y hx hy = mul-block y hy x

pub left-distributive : LeftDistributive
left-distributive = mul-xor-right

pub right-distributive : RightDistributive
right-distributive = mul-xor-left

pub right_identity : RightIdentity
right_identity = times-one

-- x • y = x • (y • one) = y • (x • one) = y • x
pub commutative : Commutative
commutative x y hx hy = ap (λ (v : ℕ). x • v) (sym (right_identity y hy)) ∙ mul-swap x y one ∙ ap (λ (v : ℕ). y • v) (right_identity x hx)

pub left_identity : LeftIdentity
left_identity x h = commutative one x (lit< tt) h ∙ right_identity x h

-- (x • y) • z = z • (x • y) = x • (z • y) = x • (y • z)
pub associative : Associative
associative x y z hx hy hz =
    commutative (x • y) z (closed x y hx hy) hz ∙ mul-swap z x y ∙ ap (λ (v : ℕ). x • v) (commutative z y hz hy)

pub ghash-linear : GhashLinear
unfolding ghash
ghash-linear h xs ys e = from-linear h 0 0 xs ys (omega arith)
