-- `comparison_text::lines::put_line` meets its contract: each arm writes the line of its case.
-- Assumes nothing.
use Rattle.comparison_text.specs.Text.{line_of}
use Rattle.recording.proofs.WrittenLaws.{nothing}
use Rattle.comparison_text.proofs.LineLaws.{room_of, line-of}
use Rattle.comparison_text.proofs.lines.put_line.Goals as goal

pub put_length-requires : goal.put_length-requires
put_length-requires c = room_of _ _ _ _ _ c.in-Length.is c.requires

pub put_last-requires : goal.put_last-requires
unfolding line_of
put_last-requires c = room_of _ _ _ _ _ c.in-Meta.is c.requires

pub put_differ-requires : goal.put_differ-requires
put_differ-requires c = room_of _ _ _ _ _ c.in-Byte.is c.requires

pub put_last-requires-in-FirstOnly : goal.put_last-requires-in-FirstOnly
unfolding line_of
put_last-requires-in-FirstOnly c = room_of _ _ _ _ _ c.in-FirstOnly.is c.requires

pub put_last-requires-in-SecondOnly : goal.put_last-requires-in-SecondOnly
unfolding line_of
put_last-requires-in-SecondOnly c = room_of _ _ _ _ _ c.in-SecondOnly.is c.requires

pub returns-in-Same : goal.returns-in-Same
unfolding line_of
returns-in-Same c =
    line-of c.args.out.now _ _ _ _ _ _ c.in-Same.is (nothing c.args.out.now _ (room_of _ _ _ _ _ c.in-Same.is c.requires))

pub returns-in-Length : goal.returns-in-Length
returns-in-Length c = line-of _ _ _ _ _ _ _ c.in-Length.is c.put_length.ensures

pub returns-in-Meta : goal.returns-in-Meta
unfolding line_of
returns-in-Meta c =
    line-of _ _ _ _ _ _ _ c.in-Meta.is c.put_last.ensures

pub returns-in-Byte : goal.returns-in-Byte
returns-in-Byte c = line-of _ _ _ _ _ _ _ c.in-Byte.is c.put_differ.ensures

pub returns-in-FirstOnly : goal.returns-in-FirstOnly
unfolding line_of
returns-in-FirstOnly c =
    line-of _ _ _ _ _ _ _ c.in-FirstOnly.is c.put_last-in-FirstOnly.ensures

pub returns-in-SecondOnly : goal.returns-in-SecondOnly
unfolding line_of
returns-in-SecondOnly c =
    line-of _ _ _ _ _ _ _ c.in-SecondOnly.is c.put_last-in-SecondOnly.ensures
