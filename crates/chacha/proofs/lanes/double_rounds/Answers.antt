use Rattle.std.proofs.Common.{refl}
use Rattle.chacha.proofs.RoundLaws.{rounds-none, rounds-more}
use Rattle.chacha.proofs.lanes.double_rounds.Goals as goal

pub loop-init : goal.loop-init
loop-init c = rounds-none _ _ _ _ c.told-v refl refl

pub loop-preserved : goal.loop-preserved
loop-preserved c = rounds-more _ _ _ _ _ _ c.one_or_four-states.ensures.0 c.loop.invariant c.double_round.ensures
