use Rattle.aes_turn.proofs.TurnLaws.{turn-parts}
use Rattle.aes_turn.proofs.turn.Goals as goal

pub returns : goal.returns
returns c = record { s_len = c.stage-5.ensures.s_len_2; s_after = turn-parts _ c.stage.ensures.s_after c.stage-2.ensures.s_after c.stage-3.ensures.s_after c.stage-4.ensures.s_after c.stage-5.ensures.s_after }
