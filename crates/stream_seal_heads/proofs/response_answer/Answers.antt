use mathlib.Core.Path.{sym, ◌∙◌}
use native.Mathlib.Omega.{arith}
use Rattle.stream_seal_heads.proofs.HeadAnswerLaws.{suited, response-unfit, response-unbound, response-empty, response-sized}
use Rattle.stream_seal_heads.proofs.response_answer.Goals as goal
use Rattle.stream_seal_heads.proofs.response_answer.Goals.{then-not-sizes_fit-via-then-not-sizes_fit, then-not-sizes_fit-via-else-not-sizes_fit+then-binding-salt}

pub returns-then-not-sizes_fit : goal.returns-then-not-sizes_fit
returns-then-not-sizes_fit c =
    elim c.then-not-sizes_fit.branch [
      | then-not-sizes_fit-via-then-not-sizes_fit w ↦ response-unfit _ _ _ _ _ _ (sym c.sizes_fit.ensures ∙ w.if-not-sizes_fit.true)
      | then-not-sizes_fit-via-else-not-sizes_fit+then-binding-salt w ↦
          response-unbound _ _ _ _ _ _ (sym c.sizes_fit.ensures ∙ w.if-not-sizes_fit.false) w.if-binding-salt.true
    ]

pub returns-then-payload-eq0 : goal.returns-then-payload-eq0
returns-then-payload-eq0 c =
    response-empty _ _ _ _ _ _ (sym c.sizes_fit.ensures ∙ c.if-not-sizes_fit.false) c.if-binding-salt.false c.if-payload-eq0.true

pub overflow_add-before-2 : goal.overflow_add-before-2
overflow_add-before-2 c =
    let f = suited _ _ _ (sym c.sizes_fit.ensures ∙ c.if-not-sizes_fit.false) in
    record { fits = omega (arith, f.salt-within, c.if-binding-salt.false) }

pub begin-requires : goal.begin-requires
begin-requires c =
    let f = suited _ _ _ (sym c.sizes_fit.ensures ∙ c.if-not-sizes_fit.false) in
    record { key_len_bound = f.key-within; salt_len_bound = f.salt-within }

pub size_answer-requires : goal.size_answer-requires
size_answer-requires c =
    let f = suited _ _ _ (sym c.sizes_fit.ensures ∙ c.if-not-sizes_fit.false) in
    record { greatest_le_max_chunk = omega arith; before_le_max_chunk = omega (arith, f.salt-within, c.if-binding-salt.false) }

pub returns : goal.returns
returns c =
    response-sized _ _ _ _ _ _ (sym c.sizes_fit.ensures ∙ c.if-not-sizes_fit.false) c.if-binding-salt.false c.if-payload-eq0.false _ c.begin.ensures _
    c.size_answer.ensures
