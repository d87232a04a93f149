-- How the code's 32-bit words stand for bytes: four to a word, the first one lowest.
use Rattle.std.specs.Prelude.{List, [], ◌∷◌, ◌++◌, ℕ, ◌-◌, ◌/◌, ◌%◌, ◌<◌, get_or, take, drop}
use Rattle.octets.specs.Buffers.{◌⊞◌}
use Rattle.aes_tables.specs.SBox.{s_box}
use Rattle.aes_tables.specs.Tables.{IsTable, mix_entry}
use Rattle.aes.specs.declared.Block.{Block}

-- what the cipher's code asks of what it is lent: its two tables, and a number of rounds that 60 words of expanded key serve
pub record CanEncrypt (t sbox : List ℕ) (rounds : ℕ) : Type 0 where
  pub mix : IsTable mix_entry t
  pub sub : IsTable s_box sbox
  pub least : 0 < rounds
  pub most : rounds < 15

-- the bytes of a word
abbrev pub bytes : ℕ → List ℕ
bytes w = w % 256 ∷ w / 256 % 256 ∷ w / 65536 % 256 ∷ w / 16777216 % 256 ∷ []

-- the 16 bytes of a block
unfoldable pub block_bytes : Block → List ℕ
block_bytes x = bytes x.a ++ (bytes x.b ++ (bytes x.c ++ bytes x.d))

-- a word's bytes, the last n of them moved to the front
unfoldable pub turned : ℕ → List ℕ → List ℕ
turned n l = drop (4 - n) l ++ take (4 - n) l

-- four entries of a table of bytes
unfoldable pub entries : List ℕ → ℕ → ℕ → ℕ → ℕ → List ℕ
entries t a b c d = get_or t a 0 ∷ get_or t b 0 ∷ get_or t c 0 ∷ get_or t d 0 ∷ []

-- four entries of a table of columns for row 0, each turned to its row, and added
unfoldable pub column_sum : List ℕ → ℕ → ℕ → ℕ → ℕ → List ℕ
column_sum t a b c d = bytes (get_or t a 0) ⊞ turned 1 (bytes (get_or t b 0)) ⊞ turned 2 (bytes (get_or t c 0)) ⊞ turned 3 (bytes (get_or t d 0))
