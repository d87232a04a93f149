use Rattle.stream_open.proofs.ChunkLaws.{step-settings, step-length, step-payload, step-ended, step-variable}
use Rattle.stream_open.proofs.open_turn.Goals as goal

pub returns-then-f-eq0 : goal.returns-then-f-eq0
returns-then-f-eq0 c = let all = step-settings _ _ _ _ c.if-f-eq0.true in record { value = all.0; out_after = all.1 }

pub open_length-requires : goal.open_length-requires
open_length-requires c = c.requires c.if-f-eq0.false

pub open_payload-requires : goal.open_payload-requires
open_payload-requires c = c.requires c.if-f-eq0.false

pub returns-in-Length : goal.returns-in-Length
returns-in-Length c = let all = step-length _ _ _ _ c.if-f-eq0.false c.in-Length.is _ c.open_length.ensures in record { value = all.0; out_after = all.1 }

pub returns-in-Payload : goal.returns-in-Payload
returns-in-Payload c = let all = step-payload _ _ _ _ c.if-f-eq0.false _ c.in-Payload.is _ _ c.open_payload.ensures.value c.open_payload.ensures.out_after in record { value = all.0; out_after = all.1 }

pub returns-in-Ended : goal.returns-in-Ended
returns-in-Ended c = let all = step-ended _ _ _ _ c.if-f-eq0.false c.in-Ended.is in record { value = all.0; out_after = all.1 }

pub returns-in-Variable : goal.returns-in-Variable
returns-in-Variable c = let all = step-variable _ _ _ _ c.if-f-eq0.false _ c.in-Variable.is in record { value = all.0; out_after = all.1 }
