use Rattle.std.proofs.Common.{◌≡◌, ℕ, ◌∙◌, subst, arith}
use Rattle.octets.specs.Numbers.{to_be}
use Rattle.ctr.specs.Long.{Batch}
use Rattle.ctr.specs.Words.{nonce_bytes}
use Rattle.ctr.proofs.CounterLaws.{counter-bytes}
use Rattle.ctr.proofs.LongLaws.{batch-none, batch-more}
use Rattle.ctr.proofs.long.counter_blocks.Goals as goal

pub loop-i-init : goal.loop-i-init
loop-i-init c = (omega arith, c.requires, batch-none _ _ _ _)

pub loop-i-preserved : goal.loop-i-preserved
unfolding nonce_bytes
loop-i-preserved c =
    let a = c.args in
    let n = c.args.n in
    let v = c.loop-i.invariant in (
      omega arith,
      c.set_block.ensures.s_len_2,
      batch-more (to_be 16) (nonce_bytes n) a.c c.loop-i.i c.loop-i.s _ c.counter_block-x.result v.1 (omega arith) v.2 c.set_block.ensures.s_after
          (c.counter_block-x.ensures
          ∙ counter-bytes n.a n.b n.c _ (omega arith)),
    )

pub returns : goal.returns
returns c =
    let a = c.args in
    let v = c.loop-i.invariant in
    let e : c.loop-i.i ≡ 32 = omega arith in record { s_len = v.1; batch = subst (λ (i : ℕ). Batch (to_be 16) (nonce_bytes a.n) a.c i c.loop-i.s) e v.2 }
