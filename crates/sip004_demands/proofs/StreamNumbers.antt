-- The numbers of streams, computed.
-- Assumes nothing.
use mathlib.Core.Path.{refl}
use Rattle.sip004.specs.Method.{method_of, key_length}
use Rattle.stream_open.specs.Steps as steps
use Rattle.stream_seal.specs.Sealing.{size_answer, framed_answer}
use Rattle.sip004_demands.specs.StreamNumbers.{StreamNumbers}

pub stream-numbers : StreamNumbers
unfolding method_of key_length steps.step_answer steps.piece_answer framed_answer size_answer
stream-numbers =
    record { keys = refl; unknown = refl; lengths = refl; turns = refl; chunks = refl; room = refl; other-steps = refl; other-chunks = refl }
