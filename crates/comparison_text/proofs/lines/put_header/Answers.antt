-- `comparison_text::lines::put_header` meets its contract.
-- Assumes nothing.
use mathlib.Core.List.{[], ◌∷◌}
use lib.ListN.{length}
use Rattle.comparison_text.specs.Text.{numbered, ended, header}
use Rattle.recording.proofs.WrittenLaws.{also, room, room-behind}
use Rattle.comparison_text.proofs.lines.put_header.Goals as goal

pub put_numbered-end-requires : goal.put_numbered-end-requires
unfolding header
put_numbered-end-requires c =
    room _ (length c.args.out.now) (numbered (101 ∷ 110 ∷ 116 ∷ 114 ∷ 105 ∷ 101 ∷ 115 ∷ 32 ∷ []) c.args.m)
    (ended (32 ∷ []) c.args.n) c.requires

pub put_last-requires : goal.put_last-requires
unfolding header
put_last-requires c =
    room-behind (ended (32 ∷ []) c.args.n) c.put_numbered-end.ensures c.requires

pub returns : goal.returns
unfolding header
returns c = also c.put_numbered-end.ensures c.put_last.ensures
