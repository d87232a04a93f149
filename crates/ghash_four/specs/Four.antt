-- Four blocks at once, each with a power of the hash key.
use Rattle.std.specs.Prelude.{cond, List, ℕ, zero, suc, eqb}
use Rattle.std.specs.Int.Bits.{bit_xor}
use Rattle.ghash.specs.Field.{mul}
use Rattle.ghash.specs.Table.{TableFor, key_in, steps, gather}
use Rattle.ghash.specs.declared.Element.{Element}

unfoldable pub sum4 : ℕ → ℕ → ℕ → ℕ → ℕ
sum4 w x y z = bit_xor (bit_xor w x) (bit_xor y z)

-- h^(n + 1)
unfoldable pub power : ℕ → ℕ → ℕ
power h zero = h
power h (suc n) = mul (power h n) h

-- four tables
pub record Four (t4 t3 t2 t1 : List ℕ) : Type 0 where
  pub fourth : TableFor t4 (key_in t4)
  pub third : TableFor t3 (key_in t3)
  pub second : TableFor t2 (key_in t2)
  pub first : TableFor t1 (key_in t1)

-- the lookups for four words, moved together
unfoldable pub gathers : (h4 h3 h2 h1 a b c d k : ℕ) → ℕ
gathers h4 h3 h2 h1 a b c d k = sum4 (gather h4 a k) (gather h3 b k) (gather h2 c k) (gather h1 d k)

-- the low word of an element, and its high word
unfoldable pub word_of : Element → ℕ → ℕ
word_of x i = cond (eqb i 0) x.lo x.hi

-- both words of four elements: what is made of the first i of them
unfoldable pub made : (h4 h3 h2 h1 : ℕ) → (a b c d : Element) → ℕ → ℕ
made h4 h3 h2 h1 a b c d zero = 0
made h4 h3 h2 h1 a b c d (suc i) = steps 64 (bit_xor (gathers h4 h3 h2 h1 (word_of a i) (word_of b i) (word_of c i) (word_of d i) 4) (made h4 h3 h2 h1 a b c d i))
