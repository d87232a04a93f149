use mathlib.Core.Path.{◌≡◌, ap, ◌∙◌}
use Rattle.datagram_open.specs.Deciding.{admitted_as, entered}
use Rattle.datagram_open.proofs.CallLaws.{settled-as}
use Rattle.datagram_open.proofs.take_to_session.Goals as goal

pub returns : goal.returns
unfolding entered
returns c =
    let e : c.admitted_as-answer.result ≡ entered c.args.header c.args.table.now c.args.clock c.args.peer =
    c.admitted_as-answer.ensures ∙ ap (admitted_as c.args.header) c.admit-met.ensures.value in record { value = e; table_after = c.admit-met.ensures.table_after; out_after = settled-as _ _ e _ _ _ c.clear_refused.ensures }
