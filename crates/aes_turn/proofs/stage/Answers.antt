use mathlib.Core.Path.{◌≡◌, refl, ap, ◌∙◌}
use Prim.Native.Nat.{◌<◌}
use native.Mathlib.Omega.{arith}
use borrow.Author.Rules.{rules}
use Rattle.aes_turn.specs.Turn.{stage_of}
use Rattle.aes_turn.proofs.TurnLaws.{stage-step, pair-below}
use Rattle.aes_turn.proofs.stage.Goals as goal

pub loop-i-init : goal.loop-i-init
unfolding stage_of
loop-i-init c = (search rules, (search rules, refl))

pub overflow_mul-d-in-loop-i : goal.overflow_mul-d-in-loop-i
overflow_mul-d-in-loop-i c =
    let a = c.args in
    let h : c.loop-i.i < a.n = omega arith in
    let p = pair-below a.d c.loop-i.i a.n h in
    omega (arith, p)

pub exchange-requires : goal.exchange-requires
exchange-requires c =
    let a = c.args in
    let h : c.loop-i.i < a.n = omega arith in
    let p = pair-below a.d c.loop-i.i a.n h in record { s_len = c.loop-i.invariant.1.0; d_bound = search rules; d_bound_2 = omega (arith, p, c.requires) }

pub loop-i-preserved : goal.loop-i-preserved
loop-i-preserved c = (search rules, (c.exchange.ensures.s_len_2, stage-step _ _ _ _ c.loop-i.invariant.1.1 c.exchange.ensures.s_after))

pub returns : goal.returns
returns c =
    let e : c.loop-i.i ≡ c.args.n = omega arith in record { s_len_2 = c.loop-i.invariant.1.0; s_after = c.loop-i.invariant.1.1 ∙ ap (stage_of _ _ _) e }
