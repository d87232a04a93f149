-- `comparison_text::lines::put_differ` meets its contract.
-- Assumes nothing.
use mathlib.Core.List.{[], ◌∷◌}
use lib.ListN.{length}
use Rattle.comparison_text.specs.Text.{numbered, ended, line_of}
use Rattle.recording.proofs.WrittenLaws.{also, room, room-behind}
use Rattle.comparison_text.proofs.lines.put_differ.Goals as goal

pub put_numbered-end-requires : goal.put_numbered-end-requires
unfolding line_of
put_numbered-end-requires c =
    room _ (length c.args.out.now) (numbered (100 ∷ 105 ∷ 102 ∷ 102 ∷ 101 ∷ 114 ∷ 32 ∷ []) c.args.i)
    (ended (32 ∷ 98 ∷ 121 ∷ 116 ∷ 101 ∷ 32 ∷ []) c.args.p) c.requires

pub put_last-requires : goal.put_last-requires
unfolding line_of
put_last-requires c =
    room-behind (ended (32 ∷ 98 ∷ 121 ∷ 116 ∷ 101 ∷ 32 ∷ []) c.args.p) c.put_numbered-end.ensures c.requires

pub returns : goal.returns
unfolding line_of
returns c = also c.put_numbered-end.ensures c.put_last.ensures
