use mathlib.Core.Path.{sym, ◌∙◌}
use Rattle.aes.proofs.KeyedLaws.{key-most}
use Rattle.sip004.proofs.MethodLaws.{fits-sizes}
use Rattle.sip004.proofs.datagram.lawful_answer.Goals as goal

pub due_answer-requires : goal.due_answer-requires
due_answer-requires c = key-most _ (fits-sizes _ _ (sym c.key_fits.ensures ∙ c.if-not-key_fits.false)).of-aes
