-- The function calls itself on the digits before the last.
use Rattle.std.proofs.Common.{arith}
use Rattle.comparison_text.proofs.NumberLaws.{room-single, put-single, room-others, room-last, put-behind-others}
use Rattle.comparison_text.proofs.lines.+put_decimal.Goals as goal

pub put_byte-requires : goal.put_byte-requires
put_byte-requires t c = room-single c.args.out.now _ _ c.requires (omega arith)

pub returns-then-n-lt10 : goal.returns-then-n-lt10
returns-then-n-lt10 t c = put-single c.args.out.now _ _ c.requires (omega arith) _ _ c.put_byte.ensures

pub put_decimal-next-requires : goal.put_decimal-next-requires
put_decimal-next-requires t c = (omega arith, room-others c.args.out.now _ _ c.requires (omega arith))

pub put_byte-requires-2 : goal.put_byte-requires-2
put_byte-requires-2 t c = room-last c.args.out.now _ _ c.requires _ _ c.put_decimal-next.ensures (omega arith)

pub returns : goal.returns
returns t c =
    put-behind-others c.args.out.now _ _ c.requires _ _ c.put_decimal-next.ensures (omega arith) _ _ c.put_byte-2.ensures
