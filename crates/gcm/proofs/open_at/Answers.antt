use mathlib.Core.Path.{◌≡◌, refl, sym, ap, ◌∙◌}
use mathlib.Core.Bool.{Bool, true, cond}
use Prim.Native.Nat.{◌-◌}
use native.Mathlib.Omega.{arith}
use lib.ListN.{length, take}
use lib.Seq.{length-take-le}
use Rattle.octets.specs.Buffers.{put}
use Rattle.ctr.specs.Gctr.{ciph_at}
use Rattle.ctr.specs.Words.{nonce_bytes}
use Rattle.gcm.specs.Gcm.{text_of, opened}
use Rattle.gcm.proofs.GcmLaws.{authentic-law}
use Rattle.gcm.proofs.open_at.Goals as goal

pub write_hash_table-requires : goal.write_hash_table-requires
write_hash_table-requires c = refl

pub slice_bounds-tag_of-end : goal.slice_bounds-tag_of-end
slice_bounds-tag_of-end c =
    let before-tag : (let s = c.args.s.now in length (take (length s - 16) s) ≡ length s - 16) = let s = c.args.s.now in length-take-le (length s - 16) s (omega arith) in
    sym (before-tag)

pub tag_of-tag-requires : goal.tag_of-tag-requires
tag_of-tag-requires c =
    let before-tag : (let s = c.args.s.now in length (take (length s - 16) s) ≡ length s - 16) = let s = c.args.s.now in length-take-le (length s - 16) s (omega arith) in
    record { c_len_bound = omega (arith, c.requires.tag_length_len_bound, before-tag); table_for = c.write_hash_table.ensures }

pub slice_bounds-crypt_into-end : goal.slice_bounds-crypt_into-end
slice_bounds-crypt_into-end c =
    let before-tag : (let s = c.args.s.now in length (take (length s - 16) s) ≡ length s - 16) = let s = c.args.s.now in length-take-le (length s - 16) s (omega arith) in
    sym (before-tag)

pub crypt_into-requires : goal.crypt_into-requires
crypt_into-requires c =
    let before-tag : (let s = c.args.s.now in length (take (length s - 16) s) ≡ length s - 16) = let s = c.args.s.now in length-take-le (length s - 16) s (omega arith) in
    omega (arith, c.requires.tag_length_in_bounds_2, before-tag)

pub returns-then-good : goal.returns-then-good
unfolding opened text_of
returns-then-good c =
    let a = c.args in
    let ciph = ciph_at a.aes.now.rounds a.aes.now.w.now in
    let n = nonce_bytes a.n in
    let good : c.equal-good.result ≡ true = c.if-good.true in record {
      value = authentic-law ciph n a.s.now _ _ c.tag_of-tag.ensures c.equal-good.ensures;
      out_after = c.crypt_into.ensures
          ∙ ap (λ (b : Bool). cond b (put a.out.now 0 (opened ciph n a.s.now)) a.out.now) (sym good);
    }

pub returns-else-good : goal.returns-else-good
returns-else-good c =
    let a = c.args in
    let ciph = ciph_at a.aes.now.rounds a.aes.now.w.now in
    let n = nonce_bytes a.n in record { value = authentic-law ciph n a.s.now _ _ c.tag_of-tag.ensures c.equal-good.ensures; out_after = ap (λ (b : Bool). cond b (put a.out.now 0 (opened ciph n a.s.now)) a.out.now) (sym c.if-good.false) }
