-- How two words of 64 bits stand for a block, and three for a longer one.
use Rattle.std.specs.Prelude.{ℕ, ◌+◌, ◌*◌, ◌^◌}
use Rattle.ghash.specs.declared.Element.{Element}
use Rattle.ghash.specs.declared.product.Long.{Long}

abbrev pub words : ℕ → ℕ → ℕ
words hi lo = hi * 2 ^ 64 + lo

abbrev pub block_of : Element → ℕ
block_of b = words b.hi b.lo

abbrev pub long_of : Long → ℕ
long_of z = words (words z.hi z.lo) z.out
