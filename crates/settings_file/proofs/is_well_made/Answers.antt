use mathlib.Core.Path.{sym, ◌∙◌}
use Rattle.settings_file.proofs.RowLaws.{in_row}
use Rattle.settings_file.proofs.is_well_made.Goals as goal

pub are_lawful-requires : goal.are_lawful-requires
are_lawful-requires c = in_row _ (sym c.is_in_row.ensures ∙ c.if-is_in_row.true)
