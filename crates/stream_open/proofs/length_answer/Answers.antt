use mathlib.Core.Path.{refl}
use native.Mathlib.Omega.{arith}
use Rattle.stream_open.proofs.ChunkLaws.{length-under, length_over, length-within}
use Rattle.stream_open.proofs.length_answer.Goals as goal

pub returns-then-read-f : goal.returns-then-read-f
returns-then-read-f c = let a = c.args in length-under a.f a.n _ refl c.if-read-f.true

pub returns-then-f-read : goal.returns-then-f-read
returns-then-f-read c =
    let a = c.args in
    length_over a.f a.n _ refl c.if-read-f.false (omega (arith, c.ranges.n.fits)) c.if-f-read.true

pub returns : goal.returns
returns c =
    let a = c.args in
    length-within a.f a.n _ refl c.if-read-f.false c.if-f-read.false
