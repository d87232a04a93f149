-- `comparison_text::lines::put_numbered` meets its contract.
-- Assumes nothing.
use lib.ListN.{length}
use Rattle.comparison_text.specs.Decimal.{decimal}
use Rattle.recording.proofs.WrittenLaws.{also, room, room-behind, copied}
use Rattle.comparison_text.proofs.lines.put_numbered.Goals as goal

pub copy-requires : goal.copy-requires
copy-requires c =
    room _ (length c.args.out.now) c.args.word.now (decimal c.args.n) c.requires

pub put_decimal-requires : goal.put_decimal-requires
put_decimal-requires c =
    let first = room _ (length c.args.out.now) c.args.word.now (decimal c.args.n) c.requires in
    room-behind (decimal c.args.n) (copied c.args.out.now _ _ c.args.word.now first c.copy.ensures)
    c.requires

pub returns : goal.returns
returns c =
    let first = room _ (length c.args.out.now) c.args.word.now (decimal c.args.n) c.requires in
    also (copied c.args.out.now _ _ c.args.word.now first c.copy.ensures)
    c.put_decimal.ensures
