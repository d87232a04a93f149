use mathlib.Core.Path.{◌≡◌, sym, ap, ◌∙◌}
use Prim.Native.Nat.{ℕ, ◌-◌, ◌<◌}
use native.Mathlib.Omega.{arith}
use lib.ListN.{length, drop, length-drop}
use Rattle.settings_write.specs.Writing.{size_of, before, given, are_writable}
use Rattle.settings_write.proofs.GivenLaws.{before-first, before-within, described, tested, next-rest}
use Rattle.settings_write.proofs.PairLaws.{number-there, length-there}
use Rattle.settings_write.proofs.WritableLaws.{admitted, good-step, bad-step, last_step}
use Rattle.settings_write.proofs.are_writable.Goals as goal

pub loop-number-init : goal.loop-number-init
loop-number-init c =
    let a = c.args in
    let t = given a.settings.now a.bodies.now in
    let e : size_of a.settings.now - 0 ≡ size_of a.settings.now = omega arith in
    (ap (λ (k : ℕ). drop k a.bodies.now) (sym (before-first a.settings.now)), ap (λ (m : ℕ). are_writable t m 0 0) e)

pub split_at-requires : goal.split_at-requires
split_at-requires c =
    let ws = c.args.settings.now in
    let bodies = c.args.bodies.now in
    let i = c.loop-number.number-index in
    omega (
      arith,
      length-there ws _ c.as_chunks.ensures.front i (omega arith),
      before-within ws i (size_of ws) (omega arith),
      described ws (length bodies) c.requires,
      ap length c.loop-number.invariant.0,
      length-drop (before ws i) bodies,
    )

pub returns-then-not-is_writable : goal.returns-then-not-is_writable
returns-then-not-is_writable c =
    let ws = c.args.settings.now in
    let bodies = c.args.bodies.now in
    let i = c.loop-number.number-index in
    let l : i < size_of ws = omega arith in
    let front = c.as_chunks.ensures.front in
    let found = tested ws bodies i _ _ _ c.loop-number.invariant.0 (number-there ws _ front i l) (length-there ws _ front i l) _
    c.split_at.ensures.front c.loop-number.least _ c.is_writable.ensures in
    sym (sym c.loop-number.invariant.1
    ∙ bad-step (given ws bodies) (size_of ws) i c.loop-number.least l (found ∙ c.if-not-is_writable.true))

pub overflow_add-least : goal.overflow_add-least
overflow_add-least c =
    let ws = c.args.settings.now in
    let bodies = c.args.bodies.now in
    let i = c.loop-number.number-index in
    let l : i < size_of ws = omega arith in
    let front = c.as_chunks.ensures.front in
    let found = tested ws bodies i _ _ _ c.loop-number.invariant.0 (number-there ws _ front i l) (length-there ws _ front i l) _
    c.split_at.ensures.front c.loop-number.least _ c.is_writable.ensures in
    record { fits = omega (arith, (admitted _ _ _ (found ∙ c.if-not-is_writable.false)).most, number-there ws _ front i l) }

pub loop-number-preserved : goal.loop-number-preserved
loop-number-preserved c =
    let ws = c.args.settings.now in
    let bodies = c.args.bodies.now in
    let i = c.loop-number.number-index in
    let l : i < size_of ws = omega arith in
    let front = c.as_chunks.ensures.front in
    let number = number-there ws _ front i l in
    let len = length-there ws _ front i l in
    let found = tested ws bodies i _ _ _ c.loop-number.invariant.0 number len _ c.split_at.ensures.front c.loop-number.least _ c.is_writable.ensures in (
      next-rest ws bodies i _ _ _ c.loop-number.invariant.0 number len _ c.split_at.ensures.back,
      sym (good-step (given ws bodies) (size_of ws) i c.loop-number.least _ l (found ∙ c.if-not-is_writable.false) (omega (arith, number)))
          ∙ c.loop-number.invariant.1,
    )

pub returns : goal.returns
returns c =
    let a = c.args in
    let ws = c.args.settings.now in
    sym (last_step (given ws a.bodies.now) (size_of ws) c.loop-number.number-index c.loop-number.least (omega arith)) ∙ c.loop-number.invariant.1
