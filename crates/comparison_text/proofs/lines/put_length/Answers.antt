-- `comparison_text::lines::put_length` meets its contract.
-- Assumes nothing.
use mathlib.Core.List.{[], ◌∷◌, ◌++◌}
use lib.ListN.{length}
use Rattle.comparison_text.specs.Text.{numbered, ended, line_of}
use Rattle.recording.proofs.WrittenLaws.{also, room, room-behind}
use Rattle.comparison_text.proofs.lines.put_length.Goals as goal

pub put_numbered-j-requires : goal.put_numbered-j-requires
unfolding line_of
put_numbered-j-requires c =
    let a = c.args in
    room _ (length a.out.now) (numbered (108 ∷ 101 ∷ 110 ∷ 103 ∷ 116 ∷ 104 ∷ 32 ∷ []) a.i)
    (numbered (32 ∷ []) a.x ++ ended (32 ∷ []) a.y) c.requires

pub put_numbered-k-requires : goal.put_numbered-k-requires
unfolding line_of
put_numbered-k-requires c =
    let a = c.args in
    room _ _ (numbered (32 ∷ []) a.x) (ended (32 ∷ []) a.y)
    (room-behind (numbered (32 ∷ []) a.x ++ ended (32 ∷ []) a.y) c.put_numbered-j.ensures c.requires)

pub put_last-requires : goal.put_last-requires
unfolding line_of
put_last-requires c =
    let a = c.args in
    room-behind (ended (32 ∷ []) a.y) c.put_numbered-k.ensures
    (room-behind (numbered (32 ∷ []) a.x ++ ended (32 ∷ []) a.y) c.put_numbered-j.ensures c.requires)

pub returns : goal.returns
unfolding line_of
returns c =
    also c.put_numbered-j.ensures (also c.put_numbered-k.ensures c.put_last.ensures)
