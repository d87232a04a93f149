use mathlib.Core.Path.{◌≡◌, refl, ap, ◌∙◌}
use Prim.Native.Nat.{◌*◌}
use native.Mathlib.Omega.{arith}
use borrow.Author.Rules.{rules}
use lib.ListN.{length-set}
use Rattle.aes_turn.specs.Turn.{exchange_of}
use Rattle.aes_turn.proofs.TurnLaws.{exchange-step}
use Rattle.aes_turn.proofs.exchange.Goals as goal

pub loop-x-init : goal.loop-x-init
unfolding exchange_of
loop-x-init c = (search rules, (search rules, refl))

pub loop-x-preserved : goal.loop-x-preserved
loop-x-preserved c =
    (search rules, (simp length-set c.loop-x.invariant.1.0, exchange-step _ _ _ _ _ _ c.loop-x.invariant.1.1 c.moved-t.ensures))

pub returns : goal.returns
returns c =
    let e : c.loop-x.x ≡ 4 * c.args.d = omega arith in record { s_len_2 = c.loop-x.invariant.1.0; s_after = c.loop-x.invariant.1.1 ∙ ap (exchange_of _ _ _ _) e }
