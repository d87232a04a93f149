-- The words of the record, written where it starts.
use mathlib.Core.Path.{ap, ◌∙◌}
use lib.Seq.{sets}
use Rattle.session_table.specs.Table.{start}
use Rattle.session_table.proofs.store.Goals as goal

pub returns : goal.returns
returns c =
    let a = c.args in
    c.write.ensures ∙ ap (sets a.table.now (start a.r)) c.words_of-ws.ensures
