use Rattle.std.proofs.Common.{ℕ, ◌*◌, ◌<◌, ◌≤◌, List, map, length, take, drop, refl, ap, ◌∙◌, arith}
use Rattle.octets.specs.Buffers.{block_count, put, ◌⊞◌}
use Rattle.aes.specs.Cipher.{cipher}
use Rattle.aes.specs.Words.{bytes, block_bytes}
use Rattle.ctr.specs.Words.{nonce_bytes}
use Rattle.ctr.proofs.CounterLaws.{counter-bytes}
use Rattle.ctr.proofs.GctrLaws.{next-length, kept_more, kept-all}
use Rattle.ctr.proofs.rest.Goals as goal

pub loop-j-init : goal.loop-j-init
loop-j-init c = (omega arith, refl, λ counter all v. v)

pub loop-j-preserved : goal.loop-j-preserved
unfolding nonce_bytes
loop-j-preserved c =
    let a = c.args in
    let n = c.args.n in
    let j = c.loop-j.j in
    let o = c.loop-j.text in
    let z = c.loop-j.invariant.1 in
    let at : 16 * j ≤ length o = omega (arith, z) in (
      omega arith,
      ap length c.xor_block.ensures ∙ next-length (λ y. block_bytes c.cipher-k.result) o o (16 * j) 0 at refl ∙ z,
      λ counter all u.
          let v = c.loop-j.invariant.2 counter all u in
          let size = u.size in
          let more : j < block_count all = omega (arith, size) in
          kept_more _ _ _ _ o _ c.loop-j.e _ j more v
          (c.xor_block.ensures
          ∙ ap (λ (b : List ℕ). put o (16 * j) (take 16 (drop (16 * j) o) ⊞ b))
          (c.cipher-k.ensures
          ∙ ap (cipher a.aes.now.rounds (map bytes a.aes.now.w.now))
          (c.counter_block.ensures ∙ counter-bytes n.a n.b n.c c.loop-j.e v.fits)))
          c.inc32-e.ensures,
    )

pub returns : goal.returns
returns c =
    λ counter all u.
    let size = u.size in
    let none : block_count all ≤ c.loop-j.j = omega (arith, size) in
    kept-all _ _ counter all c.loop-j.text c.loop-j.e c.loop-j.j none (c.loop-j.invariant.2 counter all u)
