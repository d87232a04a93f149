use mathlib.Core.Path.{◌≡◌, sym, ap, ◌∙◌, subst}
use mathlib.Core.Bool.{cond}
use lib.ListN.{length}
use Rattle.octets.specs.Buffers.{put}
use Rattle.protocol.specs.declared.Cipher.{Cipher}
use Rattle.protocol.specs.declared.Cipher.TheVariants.{AesGcm, ChaChaPoly}
use Rattle.aead.specs.Aead.{KeyFor, authentic_by, opened_by}
use Rattle.aead.proofs.open.Goals as goal

pub open_aes-requires : goal.open_aes-requires
open_aes-requires c = record { nonzero = subst (λ (x : Cipher). KeyFor x (length c.args.key.now)) c.in-AesGcm.is c.requires.key_for; nonce_len = c.requires.nonce_len; tag_length_in_bounds = c.requires.tag_length_in_bounds; s_len_bound = c.requires.s_len_bound; tag_length_in_bounds_2 = c.requires.tag_length_in_bounds_2 }

pub returns-in-AesGcm : goal.returns-in-AesGcm
returns-in-AesGcm c =
    let a = c.args in
    let same : ◌≡◌ {A = Cipher} AesGcm a.cipher = sym c.in-AesGcm.is in record {
      value = c.open_aes.ensures.value ∙ ap (λ (x : Cipher). authentic_by x a.key.now a.nonce.now a.s.now) same;
      out_after = c.open_aes.ensures.out_after
          ∙ ap (λ (x : Cipher). cond c.open_aes.result (put a.out.now 0 (opened_by x a.key.now a.nonce.now a.s.now)) a.out.now) same;
    }

pub returns-in-ChaChaPoly : goal.returns-in-ChaChaPoly
unfolding authentic_by opened_by
returns-in-ChaChaPoly c =
    let a = c.args in
    let same : ◌≡◌ {A = Cipher} (ChaChaPoly c.in-ChaChaPoly.n) a.cipher = sym c.in-ChaChaPoly.is in record {
      value = c.open.ensures.value ∙ ap (λ (x : Cipher). authentic_by x a.key.now a.nonce.now a.s.now) same;
      out_after = c.open.ensures.out_after
          ∙ ap (λ (x : Cipher). cond c.open.result (put a.out.now 0 (opened_by x a.key.now a.nonce.now a.s.now)) a.out.now) same;
    }
