use mathlib.Core.Path.{◌≡◌, refl, sym}
use Prim.Native.Nat.{◌+◌}
use native.Mathlib.Omega.{arith}
use lib.ListN.{length, take}
use lib.Seq.{length-take-le}
use Rattle.ctr.specs.Gctr.{ciph_at}
use Rattle.gcm.proofs.GcmLaws.{seal-copied}
use Rattle.gcm.proofs.seal_at.Goals as goal

pub write_hash_table-requires : goal.write_hash_table-requires
write_hash_table-requires c = refl

pub slice_bounds-seal_in_place_at-end-2 : goal.slice_bounds-seal_in_place_at-end-2
slice_bounds-seal_in_place_at-end-2 c =
    let sealed-part : (let n = length c.args.text.now + 16 in length (take n c.copy.new.out) ≡ n) = length-take-le (length c.args.text.now + 16) c.copy.new.out (omega (arith, c.copy.auto.out, c.requires.tag_length_in_bounds)) in
    sym (sealed-part)

pub seal_in_place_at-requires : goal.seal_in_place_at-requires
seal_in_place_at-requires c =
    let sealed-part : (let n = length c.args.text.now + 16 in length (take n c.copy.new.out) ≡ n) = length-take-le (length c.args.text.now + 16) c.copy.new.out (omega (arith, c.copy.auto.out, c.requires.tag_length_in_bounds)) in
    let l = sealed-part in record { tag_length_in_bounds = omega (arith, l); tag_length_len_bound = omega (arith, l, c.requires.text_len_bound); table_for = c.write_hash_table.ensures; nonce_len = c.requires.nonce_len }

pub returns : goal.returns
returns c =
    let a = c.args in
    seal-copied (ciph_at a.aes.now.rounds a.aes.now.w.now) a.nonce.now a.text.now a.out.now _ _ c.requires.tag_length_in_bounds c.copy.ensures
    c.seal_in_place_at.ensures
