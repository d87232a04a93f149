use mathlib.Core.Path.{sym}
use lib.Seq.{length-take-le}
use Rattle.ctr.specs.Gctr.{ciph_at}
use Rattle.ctr.specs.Words.{nonce_bytes}
use Rattle.gcm.proofs.GcmLaws.{front-law}
use Rattle.gcm.proofs.crypt_front.Goals as goal

pub slice_bounds-gctr-end-2 : goal.slice_bounds-gctr-end-2
slice_bounds-gctr-end-2 c =
    sym (length-take-le c.args.len c.args.out.now c.requires)

pub returns : goal.returns
returns c =
    let a = c.args in
    front-law (ciph_at a.aes.now.rounds a.aes.now.w.now) (nonce_bytes a.n) a.out.now _ a.len c.requires c.gctr.ensures
