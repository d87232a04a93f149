-- The laws of the product of SP 800-38D, section 6.3, and of GHASH, section 6.4. Those that ask for no block hold of all
-- numbers.
use Rattle.std.specs.Prelude.{◌≡◌, List, ℕ, ◌^◌, ◌<◌, length}
use Rattle.std.specs.Int.Bits.{bit_xor}
use Rattle.octets.specs.Buffers.{◌⊞◌}
use Rattle.ghash.specs.Field.{mul}
use Rattle.ghash.specs.Ghash.{ghash}

infixl 68 ◌⊕◌
infixl 70 ◌•◌
-- x is a block
abbrev pub Block : ℕ → Type 0
Block x = x < 2 ^ 128

-- the sum and the product
abbrev pub ◌⊕◌ : ℕ → ℕ → ℕ
◌⊕◌ = bit_xor

abbrev pub ◌•◌ : ℕ → ℕ → ℕ
◌•◌ = mul

-- the identity: the polynomial 1, and so 1 || 0^127, as a block's first bit is the coefficient of x^0
abbrev pub one : ℕ
one = 2 ^ 127

-- ---- the product

abbrev pub Closed : Type 0
Closed = (x y : ℕ) → Block x → Block y → Block (x • y)

abbrev pub LeftDistributive : Type 0
LeftDistributive = (x y z : ℕ) → x • (y ⊕ z) ≡ x • y ⊕ x • z

abbrev pub RightDistributive : Type 0
RightDistributive = (x y z : ℕ) → (x ⊕ y) • z ≡ x • z ⊕ y • z

abbrev pub LeftIdentity : Type 0
LeftIdentity = (x : ℕ) → Block x → one • x ≡ x

abbrev pub RightIdentity : Type 0
RightIdentity = (x : ℕ) → Block x → x • one ≡ x

abbrev pub Commutative : Type 0
Commutative = (x y : ℕ) → Block x → Block y → x • y ≡ y • x

abbrev pub Associative : Type 0
Associative = (x y z : ℕ) → Block x → Block y → Block z → (x • y) • z ≡ x • (y • z)

-- ---- GHASH under one key, of two strings of blocks that are combined block by block

abbrev pub GhashLinear : Type 0
GhashLinear = (h : ℕ) (xs ys : List ℕ) → length xs ≡ length ys → ghash h (xs ⊞ ys) ≡ ghash h xs ⊕ ghash h ys
