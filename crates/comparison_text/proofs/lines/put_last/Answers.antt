-- `comparison_text::lines::put_last` meets its contract.
-- Assumes nothing.
use mathlib.Core.List.{[], ◌∷◌}
use lib.ListN.{length}
use Rattle.comparison_text.specs.Text.{numbered}
use Rattle.recording.proofs.WrittenLaws.{also, room, room-behind}
use Rattle.comparison_text.proofs.lines.put_last.Goals as goal

pub put_numbered-end-requires : goal.put_numbered-end-requires
put_numbered-end-requires c =
    room _ (length c.args.out.now) (numbered c.args.word.now c.args.n) (10 ∷ []) c.requires

pub put_byte-requires : goal.put_byte-requires
put_byte-requires c =
    room-behind (10 ∷ []) c.put_numbered-end.ensures c.requires

pub returns : goal.returns
returns c = also c.put_numbered-end.ensures c.put_byte.ensures
