-- Each return is one case of the tests.
-- Assumes nothing.
use native.Mathlib.Omega.{arith}
use lib.ListN.{length}
use Rattle.mending.proofs.RefusalLaws.{not-refused}
use Rattle.relay.proofs.RecordingLaws.{no-mend-answer, not-mended, a-mending}
use Rattle.relay.proofs.recordings.relay_recording_mend.Goals as goal

pub returns-then-answer-ne-ANSWER : goal.returns-then-answer-ne-ANSWER
returns-then-answer-ne-ANSWER c = no-mend-answer _ _ _ (omega arith)

pub returns-then-refused-ne0 : goal.returns-then-refused-ne0
returns-then-refused-ne0 c = not-mended _ _ _ (omega arith) _ c.refusal-refused.ensures c.if-refused-ne0.true

pub mend-changes-requires : goal.mend-changes-requires
mend-changes-requires c =
    let fit = not-refused c.args.file.now (length c.args.report.now) (omega (arith, c.refusal-refused.ensures)) in record { in_bounds = fit.0; s_in_bounds = fit.1 }

pub returns : goal.returns
returns c =
    a-mending _ _ _ (omega arith) (omega (arith, c.refusal-refused.ensures)) _ _ _ c.mend-changes.ensures.value c.mend-changes.ensures.s_after
    c.mend-changes.ensures.written.puts
