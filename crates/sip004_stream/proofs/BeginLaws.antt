-- Beginning a stream, case by case, and the keys of its framing. Assumes nothing.
use Rattle.std.specs.Prelude.{Err, Ok}
use mathlib.Core.Path.{◌≡◌, sym, ap, ◌∙◌}
use mathlib.Core.Bool.{Bool, true, false, cond}
use mathlib.Core.List.{List}
use Prim.Native.Nat.{ℕ, ◌≤◌}
use lib.ListN.{length}
use Rattle.aes.proofs.KeyedLaws.{key-most}
use Rattle.protocol.specs.declared.Refusal.TheVariants.{Settings}
use Rattle.stream_pieces.specs.declared.Subkey.{Subkey}
use Rattle.stream_pieces.specs.Framing.{HasCipher}
use Rattle.sip004.specs.Method.{settings_fit, key_length, max_key}
use Rattle.sip004.proofs.MethodLaws.{fits-sizes, settings-sizes, length-fits}
use Rattle.sip004_stream.specs.Streams.{framing_of, subkey_of, sender, sender_begun, receiver, receiver_begun}

-- the keys of this edition are AES's
pub framing-cipher : (method : ℕ) → HasCipher (framing_of method)
framing-cipher method h = (fits-sizes method (key_length method) (length-fits method h)).of-aes

module _ (method : ℕ) (key salt : List ℕ) (b : Bool) (e : b ≡ settings_fit method (length key) (length salt)) where
  pub key-fits-room : b ≡ true → length key ≤ max_key
  key-fits-room f =
      key-most (length key) (fits-sizes method (length key) (settings-sizes method (length key) (length salt) (sym e ∙ f)).0).of-aes

  seal-by : (z : Bool) → b ≡ z → cond z (Ok (sender method (subkey_of key salt))) (Err Settings) ≡ sender_begun method key salt
  unfolding sender_begun
  seal-by z f = ap (λ (t : Bool). cond t (Ok (sender method (subkey_of key salt))) (Err Settings)) (sym f ∙ e)

  pub seal-begun : b ≡ true → (w : Subkey) → w ≡ subkey_of key salt → Ok (sender method w) ≡ sender_begun method key salt
  seal-begun f w g = ap (λ (x : Subkey). Ok (sender method x)) g ∙ seal-by true f

  pub seal-refused : b ≡ false → Err Settings ≡ sender_begun method key salt
  seal-refused f = seal-by false f

  open_by : (z : Bool) → b ≡ z → cond z (Ok (receiver method (subkey_of key salt))) (Err Settings) ≡ receiver_begun method key salt
  unfolding receiver_begun
  open_by z f = ap (λ (t : Bool). cond t (Ok (receiver method (subkey_of key salt))) (Err Settings)) (sym f ∙ e)

  pub open-begun : b ≡ true → (w : Subkey) → w ≡ subkey_of key salt → Ok (receiver method w) ≡ receiver_begun method key salt
  open-begun f w g = ap (λ (x : Subkey). Ok (receiver method x)) g ∙ open_by true f

  pub open-refused : b ≡ false → Err Settings ≡ receiver_begun method key salt
  open-refused f = open_by false f
