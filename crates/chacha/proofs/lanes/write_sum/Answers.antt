use Rattle.std.proofs.Common.{◌+◌, ◌*◌, ◌≤◌, length, refl, arith}
use Rattle.octets.proofs.BufferLaws.{put-none}
use Rattle.chacha.specs.Words.{add32, bytes}
use Rattle.chacha.specs.ChaCha.{summed}
use Rattle.chacha.specs.Lanes.{lane, sum_of}
use Rattle.chacha.proofs.WordLaws.{written-size, written_next, written_all}
use Rattle.chacha.proofs.LaneLaws.{sum-word, length-summed}
use Rattle.chacha.proofs.lanes.write_sum.Goals as goal

pub loop-i-init : goal.loop-i-init
unfolding bytes
loop-i-init c = (put-none c.args.out.now c.args.at, refl)

pub loop-i-preserved : goal.loop-i-preserved
unfolding add32
loop-i-preserved c =
    let a = c.args in
    let i = c.loop-i.i in
    let z = summed (lane a.v.now a.j) a.t.now in
    let n = length-summed (lane a.v.now a.j) a.t.now in
    let room : a.at + 4 * length z ≤ length a.out.now = omega (arith, n, c.requires.at_in_bounds) in
    let word = sum-word a.v.now a.t.now a.j i (omega arith) in
    let e = written_next a.out.now a.at z room i _ _ (omega (arith, n)) refl word c.loop-i.out _ c.loop-i.invariant.0 c.write_u32_le.ensures in
    (e, written-size a.out.now a.at z room (i + 1) (omega (arith, n)) _ e)

pub returns : goal.returns
unfolding sum_of
returns c =
    let a = c.args in
    let z = summed (lane a.v.now a.j) a.t.now in
    let n = length-summed (lane a.v.now a.j) a.t.now in
    let room : a.at + 4 * length z ≤ length a.out.now = omega (arith, n, c.requires.at_in_bounds) in
    written_all a.out.now a.at z room c.loop-i.i (omega (arith, n)) c.loop-i.out c.loop-i.invariant.0
