-- `comparison_text::lines::put_byte` meets its contract.
-- Assumes nothing.
use borrow.Author.Rules.{rules}
use Rattle.recording.proofs.WrittenLaws.{one}
use Rattle.comparison_text.proofs.lines.put_byte.Goals as goal

pub returns : goal.returns
returns c = one _ _ _ (search rules)
