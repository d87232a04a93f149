use Rattle.stream_seal_heads.proofs.HeadAnswerLaws.{length-capped}
use Rattle.stream_seal_heads.proofs.variable_length.Goals as goal

pub returns : goal.returns
returns c = length-capped _ _ _ _ _ _ _ c.saturating_add.ensures c.saturating_add-2.ensures c.saturating_add-3.ensures c.min.ensures
