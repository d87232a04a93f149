use Rattle.std.proofs.Common.{◌≡◌, ℕ, ◌+◌, ◌*◌, ◌≤◌, length, refl, ap, ◌∙◌, arith}
use Rattle.octets.specs.Buffers.{put}
use Rattle.octets.proofs.BufferLaws.{put-none}
use Rattle.chacha.specs.ChaCha.{joined}
use Rattle.chacha.specs.Lanes.{sums}
use Rattle.chacha.proofs.BlockLaws.{sums-size, sums_next}
use Rattle.chacha.proofs.lanes.write_sums.Goals as goal

pub loop-j-init : goal.loop-j-init
unfolding joined
loop-j-init c = (put-none c.args.out.now 0, refl)

pub loop-j-preserved : goal.loop-j-preserved
loop-j-preserved c =
    let a = c.args in
    let j = c.loop-j.j in
    let room : 64 * (j + 1) ≤ length a.out.now = omega (arith, c.requires.m_in_bounds) in
    let e =
    sums_next a.out.now c.loop-j.out a.v.now a.s.now a.c j _ _ _ room c.loop-j.invariant.0 refl c.with_counter-t.ensures
    c.write_sum.ensures in
    (e, sums-size a.out.now _ a.v.now a.s.now a.c (j + 1) room e)

pub returns : goal.returns
returns c =
    let a = c.args in
    let e : c.loop-j.j ≡ a.m = omega arith in
    c.loop-j.invariant.0 ∙ ap (λ (k : ℕ). put a.out.now 0 (sums a.v.now a.s.now a.c k)) e
