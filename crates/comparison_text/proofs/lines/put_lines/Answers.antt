use mathlib.Core.Path.{◌≡◌, sym, subst}
use native.Mathlib.Omega.{arith}
use Rattle.recording.specs.Written.{Written}
use Rattle.recording.proofs.WrittenLaws.{nothing, size}
use Rattle.comparison_text.proofs.TextLaws.{no_lines, room-line, line-behind}
use Rattle.comparison_text.proofs.lines.put_lines.Goals as goal

pub loop-i-init : goal.loop-i-init
loop-i-init c =
    let none = no_lines c.args.first.now c.args.second.now in
    subst (Written _ _ _ _) (sym none) (nothing c.args.out.now c.args.at (omega (arith, c.requires.n_in_bounds)))

pub put_line-end-requires : goal.put_line-end-requires
put_line-end-requires c =
    room-line _ _ _ _ _ _ _ _ c.difference_at-d.ensures c.loop-i.invariant _ (omega arith) c.requires.n_in_bounds

pub loop-i-preserved : goal.loop-i-preserved
loop-i-preserved c =
    line-behind _ _ _ _ _ _ _ _ c.difference_at-d.ensures c.loop-i.invariant _ _ c.put_line-end.ensures

pub returns : goal.returns
returns c = let e : c.loop-i.i ≡ c.args.n = omega arith in rw e at c.loop-i.invariant

pub shape_of-out : goal.shape_of-out
shape_of-out c = size c.loop-i.invariant
