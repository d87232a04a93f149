-- Which bytes the planes stand for: digit k is block k.
use Rattle.std.specs.Prelude.{◌≡◌, List, ℕ, ◌+◌, ◌*◌, ◌%◌, ◌<◌}
use Rattle.aes_tables.specs.SBox.{s_box}
use Rattle.aes.specs.Cipher.{state}
use Rattle.aes_circuit.specs.Circuit.{byte_at}
use Rattle.aes_circuit.specs.Planes.{planes}

-- the byte of block k in row r and column c: of a state's planes, of the planes after SubBytes, of the key's masks from word n on
unfoldable pub cell : ℕ → List ℕ → ℕ → ℕ → ℕ
cell k s r c = byte_at k (planes 4 s (32 * r + c))

unfoldable pub sub_cell : ℕ → List ℕ → ℕ → ℕ → ℕ
sub_cell k t r c = byte_at k (planes 8 t (64 * r + c))

unfoldable pub key_cell : ℕ → List ℕ → ℕ → ℕ → ℕ → ℕ
key_cell k κ n r c = byte_at k (planes 60 κ (480 * r + (n + c)))

-- block k of the state, and what block k is given of the round key
unfoldable pub block_at : ℕ → List ℕ → List ℕ
block_at k s = state (cell k s)

unfoldable pub key_at : ℕ → List ℕ → ℕ → List ℕ
key_at k κ n = state (key_cell k κ n)

-- t holds SubBytes of s, each column twice
pub record Substituted (s t : List ℕ) : Type 0 where
  pub each : (k r c : ℕ) → k < 32 → r < 4 → c < 8 → sub_cell k t r c ≡ s_box (cell k s r (c % 4))
