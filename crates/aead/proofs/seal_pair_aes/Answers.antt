use mathlib.Core.Path.{◌≡◌, ◌∙◌}
use Prim.Native.Nat.{◌+◌}
use native.Mathlib.Omega.{arith}
use lib.ListN.{length, take}
use lib.Seq.{length-take-le}
use Rattle.std.proofs.lemmas.Option.{MatchOption-at_some}
use Rattle.aes.specs.Keyed.{nk_of, KeyLength}
use Rattle.gcm.proofs.KeyedLaws.{ciph-key}
use Rattle.aead.proofs.AeadLaws.{aes-pair}
use Rattle.aead.proofs.seal_pair_aes.Goals as goal

pub returns : goal.returns
returns c =
    let a = c.args in
    let nk = c.unwrap-nk.result in
    let first_part : length (take a.at a.body.now) ≡ a.at = length-take-le a.at a.body.now (omega (arith, c.requires.tag_length_in_bounds)) in
    let first-sealed : length c.seal_in_place_at.new.body ≡ a.at = c.seal_in_place_at.auto.body ∙ first_part in
    let key : (nk ≡ nk_of (length a.key.now)) × KeyLength (length a.key.now) nk = MatchOption-at_some _ _ nk c.unwrap-nk.ensures c.key_words.ensures.some in
    aes-pair (nk + 6) c.expand-words.result a.key.now a.body.now a.first.now a.second.now _ _ a.at
    (ciph-key nk a.key.now c.expand-words.result key.0 c.expand-words.ensures.result_value)
    c.seal_in_place_at.ensures first-sealed c.seal_in_place_at-2.ensures
