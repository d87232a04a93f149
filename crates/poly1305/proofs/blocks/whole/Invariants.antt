use Rattle.std.proofs.Common.{◌≡◌, ◌/◌, length}
use Rattle.poly1305.specs.Poly1305.{mod_p, poly_from}
use Rattle.poly1305.specs.Limbs.{Loose, value}
use Rattle.poly1305.proofs.blocks.whole.Given as goal

abbrev pub invariant-loop-block : goal.invariant-loop-block
invariant-loop-block l =
    let rest = l.block-iterator.rest.now in record {
      loose : Loose l.a;
      size : l.block-iterator.size ≡ 16;
      left : poly_from (length rest / 16) (value l.r) (mod_p (value l.a)) rest ≡ poly_from (length l.s / 16) (value l.r) 0 l.s;
    }
