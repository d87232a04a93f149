use mathlib.Core.Path.{◌≡◌, sym, ◌∙◌}
use Prim.Native.Nat.{◌/◌}
use native.Mathlib.Omega.{arith}
use lib.ListN.{length}
use borrow.Author.Tests.{eqb-true, eqb-false}
use Rattle.settings_write.proofs.GivenLaws.{before-first, before-next, odd-words, over-left, all-taken}
use Rattle.settings_write.proofs.PairLaws.{length-there}
use Rattle.settings_write.proofs.describes.Goals as goal

pub returns-then-not-is_empty : goal.returns-then-not-is_empty
returns-then-not-is_empty c =
    let some = eqb-false _ _ (sym c.is_empty.ensures ∙ c.if-not-is_empty.true) in
    odd-words c.args.settings.now _ (λ e. some (omega (arith, e)))

pub loop-len-init : goal.loop-len-init
loop-len-init c = omega (arith, before-first c.args.settings.now)

pub returns-then-left-len : goal.returns-then-left-len
returns-then-left-len c =
    let ws = c.args.settings.now in
    let there = length-there ws _ c.as_chunks.ensures.front c.loop-len.len-index (omega arith) in
    over-left ws _ c.loop-len.len-index c.loop-len.left (omega arith) c.loop-len.invariant (omega (arith, there))

pub loop-len-preserved : goal.loop-len-preserved
loop-len-preserved c =
    let ws = c.args.settings.now in
    let there = length-there ws _ c.as_chunks.ensures.front c.loop-len.len-index (omega arith) in
    omega (arith, there, before-next ws c.loop-len.len-index, c.loop-len.invariant)

pub returns : goal.returns
returns c =
    let ws = c.args.settings.now in
    let e : c.loop-len.len-index ≡ length ws / 2 = omega arith in
    let none = eqb-true _ _ (sym c.is_empty.ensures ∙ c.if-not-is_empty.false) in
    all-taken ws _ c.loop-len.left (omega (arith, none)) (rw e at c.loop-len.invariant)
