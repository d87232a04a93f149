use Rattle.std.proofs.Common.{length-set, arith}
use Rattle.sha1_compression.specs.Functions.{ROTL}
use Rattle.sha1_compression.proofs.ScheduleLaws.{fits-set, grow-further, grown-up}
use Rattle.sha1_compression.proofs.further_words.Goals as goal

pub loop-t-init : goal.loop-t-init
loop-t-init c = (omega arith, c.fits-w, λ m em e. e)

pub loop-t-preserved : goal.loop-t-preserved
unfolding ROTL
loop-t-preserved c =
    let l = c.loop-t in
    let v = c.rotate_left in
    let i = l.invariant in (
      simp length-set i.0,
      fits-set l.w l.t v.result i.1 v.type_inv,
      λ m em e. grow-further m l.w l.t v.result em i.1 (omega arith) (omega arith) (i.2 m em e) v.ensures,
    )

pub returns : goal.returns
returns c =
    let l = c.loop-t in
    λ m em e. grown-up m l.w l.t (omega arith) l.invariant.0 (l.invariant.2 m em e)
