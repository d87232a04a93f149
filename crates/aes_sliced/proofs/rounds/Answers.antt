use Rattle.std.proofs.Common.{◌≡◌, ℕ, ◌+◌, refl, ap, ◌∙◌, arith, rules}
use Rattle.aes_planes.specs.State.{block_at}
use Rattle.aes_sliced.specs.Rounds.{done_of}
use Rattle.aes_sliced.proofs.RoundsLaws.{done-step}
use Rattle.aes_sliced.proofs.rounds.Goals as goal

pub loop-r-init : goal.loop-r-init
unfolding done_of
loop-r-init c = (search rules, (search rules, (refl, λ w i p h. refl)))

pub loop-r-preserved : goal.loop-r-preserved
loop-r-preserved c = (
  search rules,
  (c.round.ensures.s_len_2, (c.round.ensures.t_len_2, λ w i p h. done-step w _ _ _ _ _ _ (c.loop-r.invariant.1.1.1 w i p h) (p.each i (c.loop-r.r + 1) h (omega arith)) (c.round.ensures.by_index i h))),
)

pub returns : goal.returns
returns c =
    let e : c.loop-r.r ≡ c.args.n = omega arith in record { s_len_2 = c.loop-r.invariant.1.0; by_index = λ w i p h. c.loop-r.invariant.1.1.1 w i p h ∙ ap (λ (r : ℕ). done_of w c.args.n r (block_at i c.args.s.now)) e }
