-- What the lookup tables of the code hold. A column of the state is a 32-bit word, its byte of row 0 lowest.
use Rattle.std.specs.Prelude.{◌≡◌, List, ℕ, ◌+◌, ◌*◌, ◌<◌, get_or}
use Rattle.aes_tables.specs.Field.{◌•◌}
use Rattle.aes_tables.specs.SBox.{s_box}

-- t is a table of f over the bytes
pub record IsTable (f : ℕ → ℕ) (t : List ℕ) : Type 0 where
  pub entry : (x : ℕ) → x < 256 → get_or t x 0 ≡ f x

-- the word of the bytes a, b, c and d of rows 0 to 3
abbrev pub column : ℕ → ℕ → ℕ → ℕ → ℕ
column a b c d = a + b * 256 + c * 65536 + d * 16777216

-- the T-table: what a byte x in row 0 gives to its column by SubBytes and MixColumns
unfoldable pub mix_entry : ℕ → ℕ
mix_entry x = column (2 • s_box x) (s_box x) (s_box x) (3 • s_box x)

-- what a byte x in row 0 gives to its column by InvMixColumns
unfoldable pub inv_mix_entry : ℕ → ℕ
inv_mix_entry x = column (14 • x) (9 • x) (13 • x) (11 • x)
