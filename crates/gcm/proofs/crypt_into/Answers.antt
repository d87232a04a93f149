use native.Mathlib.Omega.{arith}
use Rattle.ctr.specs.Gctr.{ciph_at}
use Rattle.ctr.specs.Words.{nonce_bytes}
use Rattle.gcm.proofs.GcmLaws.{crypt-law}
use Rattle.gcm.proofs.crypt_into.Goals as goal

pub crypt_front-requires : goal.crypt_front-requires
crypt_front-requires c = omega (arith, c.requires, c.copy.auto.out)

pub returns : goal.returns
returns c =
    let a = c.args in
    crypt-law a.text.now a.out.now c.requires (ciph_at a.aes.now.rounds a.aes.now.w.now) (nonce_bytes a.n) c.copy.new.out _
    c.copy.ensures c.crypt_front.ensures
