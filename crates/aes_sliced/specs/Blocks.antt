-- The words of 32 blocks, and the first round key.
use Rattle.std.specs.Prelude.{ℕ, zero, suc, ◌+◌, ◌*◌, List, ◌++◌, slice_index, slice_index_or, slice_set}
use Rattle.aes.specs.Words.{bytes}
use Rattle.aes_circuit.specs.Circuit.{◌⊻◌}

-- the 16 bytes of block k
unfoldable pub words_at : ℕ → List ℕ → List ℕ
words_at k s = bytes (slice_index s (4 * k)) ++ (bytes (slice_index s (4 * k + 1)) ++ (bytes (slice_index s (4 * k + 2)) ++ bytes (slice_index s (4 * k + 3))))

-- bit i of the columns below j, with the first round key; and the bits below i
unfoldable pub add_of : List ℕ → List ℕ → ℕ → ℕ → List ℕ
add_of s κ i zero = s
add_of s κ i (suc j) = let u = add_of s κ i j in slice_set u (4 * i + j) (slice_index_or u (4 * i + j) 0 ⊻ slice_index_or κ (60 * i + j) 0)

unfoldable pub first_of : List ℕ → List ℕ → ℕ → List ℕ
first_of s κ zero = s
first_of s κ (suc i) = add_of (first_of s κ i) κ i 4
