-- The 2017 edition's numbers: what the definitions that contracts cite compute to, and what that should be, written out. A number that
-- is changed alike in a definition and in the code still meets the contract; it does not meet these.
-- Assumes nothing.
use Rattle.std.specs.Prelude.{◌≡◌, true, false, List, [], ◌∷◌, map, ℕ, ◌+◌, ◌-◌, ◌^◌, replicate}
use Rattle.sip004.specs.Method.{key_length, key_fits, settings_fit}
use Rattle.sip004.specs.Subkey.{subkey_info}
use Rattle.sip004.specs.Datagram.{max_datagram, overhead, zero_nonce}

-- no methods here: those of the 2022 edition, the neighbours of 11 to 13, and numbers that have 11 in their low bits
abbrev pub others : List ℕ
others = 0 ∷ 1 ∷ 2 ∷ 3 ∷ 4 ∷ 5 ∷ 10 ∷ 14 ∷ 267 ∷ (2 ^ 32 + 11) ∷ (2 ^ 64 - 1) ∷ []

pub record DatagramNumbers : Type 0 where
  pub keys : map key_length (11 ∷ 12 ∷ 13 ∷ []) ≡ 16 ∷ 24 ∷ 32 ∷ []
  pub unknown : map key_length others ≡ replicate 11 0
  pub unfit : map (λ (n : ℕ). key_fits n 16) others ≡ replicate 11 false
  -- a salt of its method's length and no other
  pub salts : settings_fit 11 16 16 ∷ settings_fit 12 24 24 ∷ settings_fit 13 32 32 ∷ [] ≡ true ∷ true ∷ true ∷ []
  pub other-salts : settings_fit 11 16 32 ∷ settings_fit 12 24 16 ∷ settings_fit 13 32 24 ∷ [] ≡ false ∷ false ∷ false ∷ []
  pub overheads : map overhead (16 ∷ 24 ∷ 32 ∷ []) ≡ 32 ∷ 40 ∷ 48 ∷ []
  pub longest : max_datagram ≡ 65507
  -- "ss-subkey"
  pub info : subkey_info ≡ 115 ∷ 115 ∷ 45 ∷ 115 ∷ 117 ∷ 98 ∷ 107 ∷ 101 ∷ 121 ∷ []
  pub nonce : zero_nonce ≡ 0 ∷ 0 ∷ 0 ∷ 0 ∷ 0 ∷ 0 ∷ 0 ∷ 0 ∷ 0 ∷ 0 ∷ 0 ∷ 0 ∷ []
