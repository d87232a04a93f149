-- What stands at the places of a bit of a column.
use Rattle.std.specs.Prelude.{◌≡◌, List, ℕ, ◌+◌, get_or}
use Rattle.aes_planes.specs.declared.mix.Quad.{Quad}

-- the four words of x stand at a place and 32, 64 and 96 behind it
pub record Holds (s : List ℕ) (at : ℕ) (x : Quad) : Type 0 where
  pub in-a : get_or s at 0 ≡ x.a
  pub in_b : get_or s (at + 32) 0 ≡ x.b
  pub in_c : get_or s (at + 64) 0 ≡ x.c
  pub in_e : get_or s (at + 96) 0 ≡ x.e
