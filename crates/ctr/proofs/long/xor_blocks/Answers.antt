use Rattle.std.proofs.Common.{◌≡◌, ℕ, ◌+◌, ◌*◌, ◌%◌, ◌^◌, ◌<◌, ◌≤◌, length, refl, ap, ◌∙◌, subst, arith}
use Rattle.octets.specs.Buffers.{block_count}
use Rattle.aes.specs.Words.{block_bytes}
use Rattle.ctr.specs.Kept.{Kept}
use Rattle.ctr.proofs.GctrLaws.{next-length}
use Rattle.ctr.proofs.LongLaws.{kept-start, kept_next}
use Rattle.ctr.proofs.long.xor_blocks.Goals as goal

pub loop-k-init : goal.loop-k-init
loop-k-init c = (omega arith, refl, λ ciph nonce counter all x b v. kept-start ciph nonce counter all x _ _ v)

pub loop-k-preserved : goal.loop-k-preserved
loop-k-preserved c =
    let a = c.args in
    let i = c.args.i in
    let k = c.loop-k.k in
    let o = c.loop-k.text in
    let z = c.loop-k.invariant.1 in
    let at : 16 * (i + k) ≤ length o = omega (arith, z, c.requires.m_bound_2) in (
      omega arith,
      ap length c.xor_block.ensures ∙ next-length (λ y. block_bytes c.block_of.result) o o (16 * (i + k)) 0 at refl ∙ z,
      λ ciph nonce counter all y s v.
          let w = c.loop-k.invariant.2 ciph nonce counter all y s v in
          let size = v.size in
          let next : i + k < block_count all = omega (arith, size, c.requires.m_bound_2) in
          kept_next ciph nonce counter all y i a.s.now o _ _ k (omega (arith, c.requires.m_bound)) s next w c.block_of.ensures c.xor_block.ensures,
    )

pub returns : goal.returns
returns c =
    let a = c.args in
    let v = c.loop-k.invariant in
    let e : c.loop-k.k ≡ a.m = omega arith in record {
      text_len_unchanged = v.1;
      by_index = λ ciph nonce counter all x s w.
          subst (λ (k : ℕ). Kept ciph nonce counter all c.loop-k.text ((x + k) % 2 ^ 32) (a.i + k)) e (v.2 ciph nonce counter all x s w);
    }
