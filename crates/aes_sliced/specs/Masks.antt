-- The masks of a key, in the order of the code.
use Rattle.std.specs.Prelude.{ℕ, zero, suc, ◌+◌, ◌*◌, ◌/◌, ◌%◌, ◌^◌, cond, List, ◌==◌, slice_index, slice_set}

unfoldable pub mask_word : ℕ → ℕ → ℕ
mask_word x b = cond (x / 2 ^ b % 2 == 0) 0 0xffffffff

-- bit b of the first n words; and the bits below b
unfoldable pub mask_bit_of : List ℕ → List ℕ → ℕ → ℕ → List ℕ
mask_bit_of κ w b zero = κ
mask_bit_of κ w b (suc n) = slice_set (mask_bit_of κ w b n) (60 * b + n) (mask_word (slice_index w n) b)

unfoldable pub masks_of : List ℕ → List ℕ → ℕ → ℕ → List ℕ
masks_of κ w n zero = κ
masks_of κ w n (suc b) = mask_bit_of (masks_of κ w n b) w b n
