-- SIP004, key derivation: HKDF with SHA-1.
use Rattle.std.specs.Prelude.{List, [], ◌∷◌, ℕ, length}
use Rattle.hkdf.specs.Hkdf.{hkdf}

-- "ss-subkey"
abbrev pub subkey_info : List ℕ
subkey_info = 0x73 ∷ 0x73 ∷ 0x2d ∷ 0x73 ∷ 0x75 ∷ 0x62 ∷ 0x6b ∷ 0x65 ∷ 0x79 ∷ []

-- as long as the key
unfoldable pub subkey : (key salt : List ℕ) → List ℕ
subkey key salt = hkdf salt key subkey_info (length key)
