use mathlib.Core.Path.{◌≡◌, sym, ap, ◌∙◌}
use mathlib.Core.List.{List}
use Prim.Native.Nat.{ℕ, ◌-◌}
use native.Mathlib.Omega.{arith}
use lib.ListN.{length, take}
use lib.Seq.{length-take-le}
use Rattle.ctr.specs.Gctr.{ciph_at}
use Rattle.ctr.specs.Words.{nonce_bytes}
use Rattle.gcm.specs.Gcm.{seal, text_of}
use Rattle.gcm.proofs.GcmLaws.{seal-law}
use Rattle.gcm.proofs.seal_in_place_at.Goals as goal

pub crypt_front-requires : goal.crypt_front-requires
crypt_front-requires c = omega arith

pub slice_bounds-tag_of-end-2 : goal.slice_bounds-tag_of-end-2
slice_bounds-tag_of-end-2 c =
    let before-tag : (let n = length c.args.body.now - 16 in length (take n c.crypt_front.new.out) ≡ n) = length-take-le (length c.args.body.now - 16) c.crypt_front.new.out (omega (arith, c.crypt_front.auto.out)) in
    sym (before-tag)

pub tag_of-tag-requires : goal.tag_of-tag-requires
tag_of-tag-requires c =
    let before-tag : (let n = length c.args.body.now - 16 in length (take n c.crypt_front.new.out) ≡ n) = length-take-le (length c.args.body.now - 16) c.crypt_front.new.out (omega (arith, c.crypt_front.auto.out)) in
    record { c_len_bound = omega (arith, c.requires.tag_length_len_bound, before-tag); table_for = c.requires.table_for }

pub returns : goal.returns
unfolding text_of
returns c =
    let a = c.args in
    let ciph = ciph_at a.aes.now.rounds a.aes.now.w.now in
    seal-law ciph (nonce_bytes c.read_nonce-n.result) a.body.now _ _ _ c.requires.tag_length_in_bounds c.crypt_front.ensures c.tag_of-tag.ensures
    c.copy.ensures
    ∙ ap (λ (m : List ℕ). seal ciph m (text_of a.body.now)) c.read_nonce-n.ensures
