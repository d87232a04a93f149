use mathlib.Core.Path.{sym, ◌∙◌}
use Rattle.settings_file.proofs.MadeLaws.{well-made}
use Rattle.settings_read.proofs.made_answer.Goals as goal

pub settings_in-requires : goal.settings_in-requires
settings_in-requires c = well-made _ (sym c.is_well_made.ensures ∙ c.if-not-is_well_made.false)
