-- That a length is one of a cipher's keys is a fact of one proof at most, as a struct that keeps it asks.
use Rattle.std.specs.Prelude.{ℕ}
use Rattle.std.specs.Coded.{Coded-set, coded_ℕ, le_prop}
use Rattle.aead.specs.Aead.{KeyFor}
use Rattle.protocol.specs.declared.Cipher.{Cipher}
use Rattle.protocol.specs.declared.Cipher.TheVariants.{AesGcm, ChaChaPoly}

pub key-for-prop : (c : Cipher) (k : ℕ) → IsProp (KeyFor c k)
key-for-prop AesGcm k = le_prop
key-for-prop (ChaChaPoly n) k = Coded-set coded_ℕ k 32
