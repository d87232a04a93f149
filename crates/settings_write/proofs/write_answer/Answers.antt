use mathlib.Core.Path.{sym, ◌∙◌}
use Rattle.settings_write.proofs.write_answer.Goals as goal

pub are_writable-requires : goal.are_writable-requires
are_writable-requires c = sym c.describes.ensures ∙ c.if-not-describes.false
