use mathlib.Core.Path.{sym, ◌∙◌}
use native.Mathlib.Omega.{arith}
use Rattle.sip004.proofs.AnswerLaws.{openable}
use Rattle.sip004.proofs.datagram.open.Goals as goal

pub open_body-requires : goal.open_body-requires
open_body-requires c =
    let f = openable _ _ _ _ _ (sym c.in_ok-due.ensures) in
    record { nonzero = f.of-aes; key_in_bounds = f.least; datagram_len_bound = f.most; key_in_bounds_2 = omega (arith, f.size, f.space) }
