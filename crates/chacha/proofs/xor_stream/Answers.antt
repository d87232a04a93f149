use Rattle.std.proofs.Common.{ℕ, ◌+◌, ◌-◌, ◌*◌, ◌≤◌, min, List, refl, ap, ◌∙◌, subst, arith, rules}
use Rattle.octets.specs.Buffers.{put}
use Rattle.chacha.specs.Lanes.{blocks_of}
use Rattle.chacha.proofs.StreamLaws.{blocks-stream, kept-none, kept_more, kept-all, kept-size}
use Rattle.chacha.proofs.xor_stream.Goals as goal

pub loop-i-init : goal.loop-i-init
loop-i-init c =
    let a = c.args in
    (refl, refl, kept-none a.n a.key.now a.counter a.nonce.now a.s.now c.ranges.counter.fits)

pub loop-i-preserved : goal.loop-i-preserved
loop-i-preserved c =
    let a = c.args in
    let i = c.loop-i.i in
    let m = c.needed-m.result in
    let eb = c.batch.ensures
    ∙ ap (λ (t : List ℕ). put c.loop-i.b 0 (blocks_of a.n t c.loop-i.c m)) c.counted-first.ensures
    ∙ ap (put c.loop-i.b 0) (blocks-stream a.n a.key.now a.counter a.nonce.now c.loop-i.c m) in
    let enough = subst (λ (z : ℕ). min 256 (z - 256 * i) ≤ 64 * m) c.loop-i.invariant.0 c.needed-m.ensures.1 in
    let v =
    kept_more a.n a.key.now a.counter a.nonce.now a.s.now c.loop-i.s _ _ c.loop-i.b c.loop-i.c _ i m c.loop-i.invariant.2
    c.needed-m.ensures.0 enough c.loop-i.invariant.1 eb c.xor_at.ensures refl in
    (kept-size a.n a.key.now a.counter a.nonce.now a.s.now _ _ (4 * (i + 1)) v, search rules, v)

pub returns : goal.returns
returns c =
    let a = c.args in
    kept-all a.n a.key.now a.counter a.nonce.now a.s.now c.loop-i.s c.loop-i.c (4 * c.loop-i.i) (omega arith) c.loop-i.invariant.2
