use mathlib.Core.Path.{sym, ◌∙◌}
use native.Mathlib.Omega.{arith}
use Rattle.octets.proofs.BufferLaws.{octets-fit}
use Rattle.comparison.proofs.EightLaws.{eights-more}
use Rattle.comparison.proofs.agreeing_eights.Goals as goal

pub loop-k-preserved : goal.loop-k-preserved
loop-k-preserved c =
    let a = c.args in
    let same = sym c.load_u64_be.ensures ∙ c.if-load_u64_be.false ∙ c.load_u64_be-in-loop-k.ensures in
    sym (eights-more a.a.now a.b.now a.i a.j a.n c.loop-k.k (omega arith) (octets-fit a.a.now c.type_inv.a) (octets-fit a.b.now c.type_inv.b)
    c.requires.0 c.requires.1 same) ∙ c.loop-k.invariant
