use Rattle.std.proofs.Common.{◌≡◌, ◌+◌, ◌-◌, ◌/◌, ◌%◌, ◌^◌, ◌<◌, ◌≤◌, length, sym, refl, ◌∙◌, arith, rules}
use Rattle.std.proofs.lemmas.Option.{IfSome_then, MatchOption-at_some}
use Rattle.ctr.proofs.GctrLaws.{kept-none}
use Rattle.ctr.proofs.LongLaws.{kept-start, kept_at}
use Rattle.ctr.proofs.long.batches.Goals as goal

pub returns-then-is_none : goal.returns-then-is_none
returns-then-is_none c =
    let a = c.args in
    kept-start _ _ _ _ a.counter 0 _ (kept-none _ _ a.counter _ (search rules))

pub loop-next-init : goal.loop-next-init
loop-next-init c =
    let a = c.args in
    let blocks = (length a.text.now + 15) / 16 in (
      IfSome_then _ {Q = λ m. (0 < m) × (m ≤ 32) × (m ≤ blocks - 0)} c.batch_size-next.ensures (λ m h. (h.0, h.1, omega arith)),
      omega arith,
      omega arith,
      refl,
      kept-none _ _ a.counter _ (search rules),
    )

pub loop-next-preserved : goal.loop-next-preserved
loop-next-preserved c =
    let a = c.args in
    let v = c.loop-next.invariant in
    let m = c.in-Some.m in
    let bound : (0 < m) × (m ≤ 32) × (m ≤ (length a.text.now + 15) / 16 - c.loop-next.i) = MatchOption-at_some _ _ m c.in-Some.is v.0 in
    let more : c.loop-next.i + m ≤ (length a.text.now + 15) / 16 = omega arith in
    let next : (c.loop-next.c + m) % 2 ^ 32 ≡ (a.counter + (c.loop-next.i + m)) % 2 ^ 32 = omega arith in (
      c.batch_size-next-in-Some.ensures,
      more,
      next,
      c.batch.ensures.text_len_unchanged ∙ v.3,
      c.batch.ensures.by_index a.aes.now.w.now a.counter a.text.now c.masks.ensures.keys v.4,
    )

pub returns : goal.returns
returns c =
    let v = c.loop-next.invariant in
    kept_at (sym v.2) v.4
