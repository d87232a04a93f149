-- AES under a key of bytes: which lengths there are, and a block encrypted or decrypted in place.
use Rattle.std.specs.Prelude.{◌≡◌, Bool, cond, ◌&&◌, List, ℕ, ◌*◌, ◌≤◌, eqb, ltb, length}

-- Nk for a key of n bytes; 0 where AES has no such key
unfoldable pub nk_of : ℕ → ℕ
nk_of n = cond (eqb n 16) 4 (cond (eqb n 24) 6 (cond (eqb n 32) 8 0))

-- what a key's length says of Nk
pub record KeyLength (n nk : ℕ) : Type 0 where
  pub words : n ≡ 4 * nk
  pub least : 4 ≤ nk
  pub most : nk ≤ 8

-- a key of AES, and a string of n bytes
unfoldable pub lawful : ℕ → List ℕ → List ℕ → Bool
lawful n key s = ltb 0 (nk_of (length key)) && eqb (length s) n

-- the block under f, aes or its inverse, or what stood there where key or block has a wrong length
unfoldable pub in_place : (ℕ → List ℕ → List ℕ → List ℕ) → List ℕ → List ℕ → List ℕ
in_place f key s = cond (lawful 16 key s) (f (nk_of (length key)) key s) s
