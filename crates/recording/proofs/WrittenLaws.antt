-- One string behind another: nothing, one byte, one string behind another, and the room that is left.
-- Assumes nothing.
use mathlib.Core.Path.{◌≡◌, refl, sym, ap, ◌∙◌}
use mathlib.Core.List.{List, [], ◌∷◌, ◌++◌}
use Prim.Native.Nat.{ℕ, ◌+◌, ◌≤◌}
use native.Mathlib.Omega.{arith}
use lib.ListN.{length, set, length-append}
use Rattle.octets.specs.Buffers.{put}
use Rattle.octets.proofs.BufferLaws.{length-put, put-none, put_one, put-behind}
use Rattle.recording.specs.Written.{Written}

module _ {d d₁ : List ℕ} {at r : ℕ} {xs : List ℕ} where
  pub size : Written d at d₁ r xs → length d₁ ≡ length d
  size p = ap length p.puts ∙ length-put d at xs p.fits

  pub also : {d₂ : List ℕ} {r₂ : ℕ} {ys : List ℕ} → Written d at d₁ r xs → Written d₁ r d₂ r₂ ys → Written d at d₂ r₂ (xs ++ ys)
  also {d₂} {r₂} {ys} p q =
      record {
        fits = omega (arith, p.ends, q.fits, size p, length-append xs ys);
        ends = omega (arith, p.ends, q.ends, length-append xs ys);
        puts = put-behind d xs ys d₁ d₂ at r p.ends p.fits p.puts q.puts;
      }

  -- what is left behind xs has room for ys
  pub room-behind : (ys : List ℕ) → Written d at d₁ r xs → at + length (xs ++ ys) ≤ length d → r + length ys ≤ length d₁
  room-behind ys p h = omega (arith, p.ends, size p, length-append xs ys)

pub room : (at n : ℕ) (xs ys : List ℕ) → at + length (xs ++ ys) ≤ n → at + length xs ≤ n
room at n xs ys h = omega (arith, length-append xs ys)

pub nothing : (d : List ℕ) (at : ℕ) → at + 0 ≤ length d → Written d at d at []
nothing d at h = record { fits = h; ends = omega arith; puts = put-none d at }

pub one : (d : List ℕ) (at b : ℕ) → at + 1 ≤ length d → Written d at (set d at b) (at + 1) (b ∷ [])
one d at b h = record { fits = h; ends = refl; puts = sym (put_one d at b (omega arith)) }

-- what `octets::copy` leaves
pub copied : (d : List ℕ) (at : ℕ) (d₁ xs : List ℕ) → at + length xs ≤ length d → d₁ ≡ put d at xs → Written d at d₁ (at + length xs) xs
copied d at d₁ xs h e = record { fits = h; ends = refl; puts = e }
