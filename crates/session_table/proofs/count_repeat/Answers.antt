-- One word is set, to one more than it was.
use mathlib.Core.Path.{ap}
use Prim.Native.Nat.{◌+◌}
use lib.ListN.{set}
use Rattle.session_table.specs.Table.{start}
use Rattle.session_table.proofs.count_repeat.Goals as goal

pub returns : goal.returns
returns c =
    let a = c.args in
    ap (set a.table.now (start a.r + 12)) c.one_more-repeats.ensures
