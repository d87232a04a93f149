use Rattle.std.proofs.Common.{◌∙◌}
use Rattle.session_table.specs.Table.{taken}
use Rattle.session_table.proofs.PlaceLaws.{some-place}
use Rattle.session_table.proofs.is_taken.Goals as goal

pub returns : goal.returns
unfolding taken
returns c = c.is_some.ensures ∙ some-place _ _ c.find.ensures
