-- Key derivation from a context and key material of one block each: what is answered; and the context of a subkey.
use Rattle.std.specs.Prelude.{Bool, true, false, ◌&&◌, List, [], ◌∷◌, ℕ, leb, length, replicate}
use Rattle.blake3.specs.Tree.{derive_key}
use Rattle.blake3.specs.declared.Derived.{Derived}

-- each is at most 64 bytes long
unfoldable pub short : List ℕ → List ℕ → Bool
short context material = leb (length context) 64 && leb (length material) 64

-- the bytes, or a refusal
abbrev pub answer : Bool → List ℕ → Derived
answer true s = record { ok = true; bytes = s }
answer false s = record { ok = false; bytes = replicate 64 0 }

unfoldable pub derived : List ℕ → List ℕ → Derived
derived context material = answer (short context material) (derive_key context material)

-- "shadowsocks 2022 session subkey"
abbrev pub subkey_context : List ℕ
subkey_context =
    115 ∷ 104 ∷ 97 ∷ 100 ∷ 111 ∷ 119 ∷ 115 ∷ 111 ∷ 99 ∷ 107 ∷ 115 ∷ 32 ∷ 50 ∷ 48 ∷ 50 ∷ 50 ∷ 32 ∷ 115 ∷ 101 ∷ 115 ∷ 115
    ∷ 105 ∷ 111 ∷ 110 ∷ 32 ∷ 115 ∷ 117 ∷ 98 ∷ 107 ∷ 101 ∷ 121 ∷ []
