use mathlib.Core.Path.{sym, ◌∙◌}
use Rattle.sip004.proofs.AnswerLaws.{sealable}
use Rattle.sip004.proofs.datagram.seal.Goals as goal

pub write_datagram-requires : goal.write_datagram-requires
write_datagram-requires c =
    let f = sealable _ _ _ _ _ _ (sym c.in_ok-n.ensures) in
    record { nonzero = f.of-aes; salt_len = f.same_length; n_value = f.size; n_le_max_datagram = f.most; n_in_bounds = f.space }
