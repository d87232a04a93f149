use mathlib.Core.Path.{sym, ◌∙◌}
use native.Mathlib.Omega.{arith}
use Rattle.aes.proofs.KeyedLaws.{key-most}
use Rattle.sip004.proofs.MethodLaws.{fits-sizes, settings-sizes}
use Rattle.sip004.proofs.datagram.seal_answer.Goals as goal

pub length_answer-requires : goal.length_answer-requires
length_answer-requires c =
    let s = settings-sizes _ _ _ (sym c.settings_fit.ensures ∙ c.if-not-settings_fit.false) in
    omega (arith, s.1, key-most _ (fits-sizes _ _ s.0).of-aes)
