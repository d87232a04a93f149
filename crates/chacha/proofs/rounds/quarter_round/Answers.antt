use Rattle.chacha.specs.ChaCha.{quarter}
use Rattle.chacha.proofs.rounds.quarter_round.Goals as goal

pub returns : goal.returns
unfolding quarter
returns c = cc
