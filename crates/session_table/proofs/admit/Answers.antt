-- Each return is one case of what the packet ID meets.
use Rattle.std.proofs.Common.{ap, ◌∙◌}
use Rattle.session_table.specs.Table.{Entry, keep, admitted}
use Rattle.session_table.proofs.TableLaws.{met-known, met-new}
use Rattle.session_table.proofs.admit.Goals as goal

pub returns-in-Some : goal.returns-in-Some
returns-in-Some c =
    let a = c.args in
    let t = c.args.table.now in
    let met = met-known t a.clock a.peer a.p a.id c.in-Some.r c.in-Some.ensures.1 in
    record { value = c.admit_known.ensures.value ∙ ap admitted met; table_after = c.admit_known.ensures.table_after ∙ ap (λ (x : Entry). keep x t) met }

pub returns-in-None : goal.returns-in-None
returns-in-None c =
    let a = c.args in
    let t = c.args.table.now in
    let met = met-new t a.clock a.peer a.p a.id c.in-None.ensures in
    record { value = c.admit_new.ensures.value ∙ ap admitted met; table_after = c.admit_new.ensures.table_after ∙ ap (λ (x : Entry). keep x t) met }
