-- The bytes of a nonce of three words.
use Rattle.std.specs.Prelude.{ℕ, List, ◌++◌}
use Rattle.aes.specs.Words.{bytes}
use Rattle.ctr.specs.declared.Nonce.{Nonce}

unfoldable pub nonce_bytes : Nonce → List ℕ
nonce_bytes n = bytes n.a ++ (bytes n.b ++ bytes n.c)
