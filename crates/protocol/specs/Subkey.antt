-- SIP022, section 2: the subkey of a stream, from the key and its salt, and of a datagram, from the key and its session ID.
use Rattle.std.specs.Prelude.{List, ◌++◌, ℕ, length, take}
use Rattle.octets.specs.Numbers.{to_be}
use Rattle.blake3.specs.Tree.{derive_key}
use Rattle.blake3.specs.Derivation.{subkey_context}

-- as long as the key
unfoldable pub subkey : List ℕ → List ℕ → List ℕ
subkey key salt = take (length key) (derive_key subkey_context (key ++ salt))

-- a session ID stands in the salt's place by its 8 bytes
unfoldable pub session_subkey : List ℕ → ℕ → List ℕ
session_subkey key id = subkey key (to_be 8 id)
