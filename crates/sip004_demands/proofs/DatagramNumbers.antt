-- The 2017 edition's numbers, by computing them.
-- Assumes nothing.
use mathlib.Core.Path.{refl}
use Rattle.sip004.specs.Method.{method_of, key_length, key_fits, settings_fit}
use Rattle.sip004_demands.specs.DatagramNumbers.{DatagramNumbers}

pub datagram-numbers : DatagramNumbers
unfolding method_of key_length key_fits settings_fit
datagram-numbers = record {
  keys = refl;
  unknown = refl;
  unfit = refl;
  salts = refl;
  other-salts = refl;
  overheads = refl;
  longest = refl;
  info = refl;
  nonce = refl;
}
