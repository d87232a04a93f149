use mathlib.Core.Path.{sym, ap, ◌∙◌}
use mathlib.Core.List.{List}
use Prim.Native.Nat.{ℕ}
use lib.Bits.{bit_xor}
use Rattle.ghash.specs.Field as field
use Rattle.ghash.specs.Ghash.{blocks, ghash_from}
use Rattle.ghash.specs.Table.{key_in}
use Rattle.ghash.specs.Words.{block_of}
use Rattle.ghash.proofs.GhashLaws.{ghash-next, ghash-none}
use Rattle.ghash.proofs.ghash_from.Goals as goal

pub loop-block-init : goal.loop-block-init
loop-block-init c =
    let a = c.args in
    rw c.into_iter-block-iterator.ensures.into_iter_gives
    (c.chunks-block-items.ensures.size, ap (λ (s : List ℕ). ghash_from (key_in a.t.now) (block_of a.y) (blocks s)) c.chunks-block-items.ensures.rest)

pub loop-block-preserved : goal.loop-block-preserved
loop-block-preserved c =
    let v = c.loop-block.invariant in
    let step = c.in-Some.ensures.steps in
    let h = key_in c.args.t.now in
    let z = block_of c.loop-block.z in
    let e = c.mul-z.ensures ∙ ap (λ (w : ℕ). field.mul w h) (c.add.ensures ∙ ap (bit_xor z) c.read_block.ensures) in (
      step.0 ∙ v.0,
      ap (λ (w : ℕ). ghash_from h w (blocks c.next.new.self.rest.now)) e
          ∙ sym (ghash-next h z c.loop-block.block-iterator.rest.now c.in-Some.block.now c.next.new.self.rest.now step.1.0 (rw (← v.0) step.1.1) step.1.2)
          ∙ v.1,
    )

pub returns : goal.returns
returns c =
    let step = c.in-None.ensures.steps in
    sym (ghash-none (key_in c.args.t.now) (block_of c.loop-block.z) c.loop-block.block-iterator.rest.now step.1.0) ∙ c.loop-block.invariant.1
