-- Numbers in limbs of 26 bits, and in words of 64.
use Rattle.std.specs.Prelude.{◌≡◌, ℕ, ◌+◌, ◌*◌, ◌/◌, ◌%◌, ◌^◌, ◌<◌}
use Rattle.std.specs.Int.Bits.{bit_and}
use Rattle.poly1305.specs.declared.limbs.Limbs.{Limbs}
use Rattle.poly1305.specs.declared.limbs.Parts.{Parts}
use Rattle.poly1305.specs.declared.limbs.Summed.{Summed}

-- five digits in base b, the lowest first
unfoldable pub digits : ℕ → ℕ → ℕ → ℕ → ℕ → ℕ → ℕ
digits b d0 d1 d2 d3 d4 = d0 + b * (d1 + b * (d2 + b * (d3 + b * d4)))

abbrev pub value : Limbs → ℕ
value l = digits (2 ^ 26) l.l0 l.l1 l.l2 l.l3 l.l4

-- 2^130, under a name that stays shut: omega takes no number of 40 digits
unfoldable pub over : ℕ
over = 2 ^ 130

-- two words, the low one first, and what lies above them
unfoldable pub from_words : ℕ → ℕ → ℕ → ℕ
from_words low high top = low + 2 ^ 64 * (high + 2 ^ 64 * top)

-- the words of the low 128 bits
abbrev pub low_word : Limbs → ℕ
low_word l = l.l0 + l.l1 * 2 ^ 26 + l.l2 % 2 ^ 12 * 2 ^ 52

abbrev pub high_word : Limbs → ℕ
high_word l = l.l2 / 2 ^ 12 + l.l3 * 2 ^ 14 + l.l4 % 2 ^ 24 * 2 ^ 40

-- bitwise and, under a name that stays shut
unfoldable pub masked : ℕ → ℕ → ℕ
masked w m = bit_and w m

-- r is x in two parts
pub record Split (x : ℕ) (r : Parts) : Type 0 where
  pub low : r.low < 2 ^ 26
  pub sum : r.low + r.high * 2 ^ 26 ≡ x

-- every limb is below n
pub record Below (n : ℕ) (l : Limbs) : Type 0 where
  pub b0 : l.l0 < n
  pub b1 : l.l1 < n
  pub b2 : l.l2 < n
  pub b3 : l.l3 < n
  pub b4 : l.l4 < n

-- every limb is below 2^26, but the second may be a little larger
pub record Loose (l : Limbs) : Type 0 where
  pub b0 : l.l0 < 2 ^ 26
  pub b1 : l.l1 < 2 ^ 26 + 2 ^ 20
  pub b2 : l.l2 < 2 ^ 26
  pub b3 : l.l3 < 2 ^ 26
  pub b4 : l.l4 < 2 ^ 26

-- t is a + b, limb by limb
pub record Sum (a b t : Limbs) : Type 0 where
  pub s0 : t.l0 ≡ a.l0 + b.l0
  pub s1 : t.l1 ≡ a.l1 + b.l1
  pub s2 : t.l2 ≡ a.l2 + b.l2
  pub s3 : t.l3 ≡ a.l3 + b.l3
  pub s4 : t.l4 ≡ a.l4 + b.l4

-- t is h + x
pub record Chained (h : Limbs) (x : ℕ) (t : Summed) : Type 0 where
  pub below : Below (2 ^ 26) t.limbs
  pub small : t.top < 8
  pub sum : value h + x ≡ value t.limbs + t.top * over
