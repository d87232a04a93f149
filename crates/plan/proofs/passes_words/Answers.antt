use mathlib.Core.Path.{sym, ◌∙◌}
use native.Mathlib.Omega.{arith}
use borrow.Author.Tests.{eqb-true, eqb-false}
use Rattle.plan.proofs.WordLaws.{first-there, second-there, fits-within, adds_on, odd-fails, count-fails, piece-fails, all_read}
use Rattle.plan.proofs.passes_words.Goals as goal
use Rattle.plan.proofs.passes_words.Goals.{then-not-is_empty-via-then-not-is_empty, then-not-is_empty-via-else-not-is_empty+then-pieces-fewest_of}

pub returns-then-not-is_empty : goal.returns-then-not-is_empty
returns-then-not-is_empty c = elim c.then-not-is_empty.branch [
  | then-not-is_empty-via-then-not-is_empty w ↦
      let some = eqb-false _ _ (sym c.is_empty.ensures ∙ w.if-not-is_empty.true) in
      odd-fails _ _ _ (λ z. some (c.as_chunks.ensures.back_len ∙ z))
  | then-not-is_empty-via-else-not-is_empty+then-pieces-fewest_of w ↦
      count-fails _ _ _ _ w.fewest_of.ensures (λ z. w.if-pieces-fewest_of.true (c.as_chunks.ensures.front_len ∙ z))
]

pub returns-then-not-piece_fits : goal.returns-then-not-piece_fits
returns-then-not-piece_fits c =
    let w = c.args.plan.now in
    let i = c.loop-bytes.bytes-index in
    let chunks = c.as_chunks.ensures in
    let none = eqb-true _ _ (sym c.is_empty.ensures ∙ c.if-not-is_empty.false) in
    piece-fails _ _ w _ c.fewest_of.ensures (sym chunks.back_len ∙ none) (sym chunks.front_len ∙ c.if-pieces-fewest_of.false) _ i _ _ (omega arith)
    (first-there w _ chunks.front i (omega arith)) (second-there w _ chunks.front i (omega arith)) _ c.piece_fits.ensures c.if-not-piece_fits.true
    c.loop-bytes.invariant

pub overflow_sub-rest : goal.overflow_sub-rest
overflow_sub-rest c = fits-within _ _ _ _ (sym c.piece_fits.ensures ∙ c.if-not-piece_fits.false)

pub loop-bytes-preserved : goal.loop-bytes-preserved
loop-bytes-preserved c =
    let w = c.args.plan.now in
    let i = c.loop-bytes.bytes-index in
    let front = c.as_chunks.ensures.front in
    adds_on _ _ w _ i _ _ (omega arith) (first-there w _ front i (omega arith)) (second-there w _ front i (omega arith)) _ c.piece_fits.ensures
    c.if-not-piece_fits.false c.loop-bytes.invariant

pub returns : goal.returns
returns c =
    let chunks = c.as_chunks.ensures in
    let none = eqb-true _ _ (sym c.is_empty.ensures ∙ c.if-not-is_empty.false) in
    all_read _ _ _ _ c.fewest_of.ensures (sym chunks.back_len ∙ none) (sym chunks.front_len ∙ c.if-pieces-fewest_of.false) _ c.loop-bytes.bytes-index
    (omega arith) c.loop-bytes.invariant
