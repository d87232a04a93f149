use Rattle.std.proofs.Common.{◌<◌, ℕ, ◌/◌, List, length, ap, ◌∙◌, arith}
use Rattle.std.specs.declared.slice.ChunksExact.{ChunksExact}
use Rattle.sha1_hash.specs.Hash.{chain}
use Rattle.sha1_hash.proofs.ChainLaws.{chain-block, chain-rest}
use Rattle.sha1_hash.proofs.whole_blocks.Goals as goal

pub loop-block-init : goal.loop-block-init
loop-block-init c =
    let k = c.chunks_exact-block-items.ensures in
    let e = c.into_iter-block-iterator.ensures.into_iter_gives in (
      ap (λ (x : ChunksExact ℕ). x.size) e ∙ k.size,
      ap (λ (p : List ℕ). chain (length p / 64) c.args.h p) (ap (λ (x : ChunksExact ℕ). x.rest.now) e ∙ k.rest),
    )

pub loop-block-preserved : goal.loop-block-preserved
loop-block-preserved c =
    let i = c.loop-block.invariant in
    let s = c.in-Some.ensures.steps in (
      s.0 ∙ i.0,
      ap (λ z. chain (length c.next.new.self.rest.now / 64) z c.next.new.self.rest.now) c.compress-z.ensures
          ∙ chain-block c.loop-block.z _ _ _ s.1.0 (s.1.1 ∙ i.0) ∙ i.1,
    )

pub returns : goal.returns
returns c =
    let i = c.loop-block.invariant in
    let s = c.in-None.ensures.steps in
    let h : length c.loop-block.block-iterator.rest.now < 64 = omega (arith, i.0, s.1.0) in
    chain-rest c.loop-block.z _ h ∙ i.1
