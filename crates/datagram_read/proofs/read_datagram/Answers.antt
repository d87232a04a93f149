use mathlib.Core.Path.{sym, ◌∙◌}
use Rattle.aes.proofs.KeyedLaws.{key-of-size}
use Rattle.protocol.proofs.MethodLaws.{fits-sizes}
use Rattle.datagram_read.proofs.read_datagram.Goals as goal

pub invariant_of-key : goal.invariant_of-key
invariant_of-key c =
    record { usable = key-of-size _ (fits-sizes _ _ (sym c.key_fits.ensures ∙ c.if-not-key_fits.false)).either }
