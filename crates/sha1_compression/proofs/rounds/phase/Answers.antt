use Rattle.std.proofs.Common.{◌≡◌, ℕ, ◌+◌, ◌<◌, refl, ap, ◌∙◌, arith}
use Rattle.sha1_compression.specs.Rounds.{turn, rounds}
use Rattle.sha1_compression.proofs.RoundLaws.{length-phase, word-of-phase, of_turn, one_more}
use Rattle.sha1_compression.proofs.rounds.phase.Goals as goal

pub loop-word-init : goal.loop-word-init
unfolding rounds
loop-word-init g c = refl

pub loop-word-preserved : goal.loop-word-preserved
loop-word-preserved g c =
    let a = c.args in
    let l = c.loop-word in
    let w = a.w.now in
    let i = l.word-index in
    let n = length-phase w a.from (omega arith) in
    let h : i < 20 = omega (arith, n) in
    let v = c.function.result in
    let x = c.requires.values (a.from + i) l.z.b l.z.c l.z.d v (omega arith) (omega arith) c.function.ensures in
    let k = c.requires.constants (a.from + i) (omega arith) (omega arith) in
    let e = c.turn-z.ensures ∙ ap (λ (u : ℕ). turn l.z v a.k u) (word-of-phase w a.from i h) in
    one_more w a.from a.s i l.invariant (of_turn (a.from + i) l.z v a.k _ x k e)

pub returns : goal.returns
returns g c =
    let a = c.args in
    let l = c.loop-word in
    let n = length-phase a.w.now a.from (omega arith) in
    let e : l.word-index ≡ 20 = omega (arith, n) in
    l.invariant ∙ ap (λ (k : ℕ). rounds k a.from a.s a.w.now) e
