use Rattle.std.proofs.Common.{◌+◌, ◌*◌, ◌≤◌, length, refl, arith}
use Rattle.octets.proofs.BufferLaws.{put-none}
use Rattle.chacha.specs.Words.{bytes}
use Rattle.chacha.proofs.WordLaws.{written-size, written_next, written_all}
use Rattle.chacha.proofs.write_words.Goals as goal

pub loop-i-init : goal.loop-i-init
unfolding bytes
loop-i-init c = (put-none c.args.out.now 0, refl)

pub loop-i-preserved : goal.loop-i-preserved
loop-i-preserved c =
    let a = c.args in
    let v = c.loop-i.invariant in
    let room : 0 + 4 * length a.w.now ≤ length a.out.now = omega (arith, c.requires) in
    let e = written_next a.out.now 0 a.w.now room c.loop-i.i _ _ (omega arith) (omega arith) refl c.loop-i.out _ v.0 c.write_u32_le.ensures in
    (e, written-size a.out.now 0 a.w.now room (c.loop-i.i + 1) (omega arith) _ e)

pub returns : goal.returns
returns c =
    let a = c.args in
    written_all a.out.now 0 a.w.now (omega (arith, c.requires)) c.loop-i.i (omega arith) c.loop-i.out c.loop-i.invariant.0
