use mathlib.Core.Path.{sym, ap, ◌∙◌, subst}
use mathlib.Core.List.{◌++◌}
use lib.ListN.{length, take, drop}
use Rattle.protocol.specs.declared.Cipher.{Cipher}
use Rattle.aead.specs.Aead.{KeyFor, text_of, seal_by}
use Rattle.aead.proofs.seal_pair.Goals as goal

pub seal_pair_aes-requires : goal.seal_pair_aes-requires
seal_pair_aes-requires c = record { nonzero = subst (λ (x : Cipher). KeyFor x (length c.args.key.now)) c.in-AesGcm.is c.requires.key_for; first_len = c.requires.first_len; second_len = c.requires.second_len; tag_length_le_at = c.requires.tag_length_le_at; tag_length_in_bounds = c.requires.tag_length_in_bounds; body_len_bound = c.requires.body_len_bound }

pub returns-in-AesGcm : goal.returns-in-AesGcm
returns-in-AesGcm c =
    let a = c.args in
    c.seal_pair_aes.ensures
    ∙ ap
    (λ (x : Cipher). seal_by x a.key.now a.first.now (text_of (take a.at a.body.now))
    ++ seal_by x a.key.now a.second.now (text_of (drop a.at a.body.now))) (sym c.in-AesGcm.is)

pub returns-in-ChaChaPoly : goal.returns-in-ChaChaPoly
returns-in-ChaChaPoly c =
    let a = c.args in
    c.seal_pair_chacha.ensures
    ∙ ap
    (λ (x : Cipher). seal_by x a.key.now a.first.now (text_of (take a.at a.body.now))
    ++ seal_by x a.key.now a.second.now (text_of (drop a.at a.body.now))) (sym c.in-ChaChaPoly.is)
