use mathlib.Core.Path.{sym, ◌∙◌}
use native.Mathlib.Omega.{arith}
use Rattle.stream_seal_heads.proofs.HeadAnswerLaws.{suited, request-unfit, request-no-address, request-unlawful, request-sized}
use Rattle.stream_seal_heads.proofs.request_answer.Goals as goal
use Rattle.stream_seal_heads.proofs.request_answer.Goals.{then-not-is_address-via-then-not-is_address, then-not-is_address-via-else-not-is_address+then-not-padding_lawful}

pub returns-then-not-sizes_fit : goal.returns-then-not-sizes_fit
returns-then-not-sizes_fit c = request-unfit _ _ _ _ _ _ _ (sym c.sizes_fit.ensures ∙ c.if-not-sizes_fit.true)

pub returns-then-not-is_address : goal.returns-then-not-is_address
returns-then-not-is_address c =
    elim c.then-not-is_address.branch [
      | then-not-is_address-via-then-not-is_address w ↦
          request-no-address _ _ _ _ _ _ _ (sym c.sizes_fit.ensures ∙ c.if-not-sizes_fit.false) (sym c.is_address.ensures ∙ w.if-not-is_address.true)
      | then-not-is_address-via-else-not-is_address+then-not-padding_lawful w ↦
          request-unlawful _ _ _ _ _ _ _ (sym c.sizes_fit.ensures ∙ c.if-not-sizes_fit.false) (sym c.is_address.ensures ∙ w.if-not-is_address.false)
          (sym w.padding_lawful.ensures ∙ w.if-not-padding_lawful.true)
    ]

pub begin-requires : goal.begin-requires
begin-requires c =
    let f = suited _ _ _ (sym c.sizes_fit.ensures ∙ c.if-not-sizes_fit.false) in
    record { key_len_bound = f.key-within; salt_len_bound = f.salt-within }

pub size_answer-requires : goal.size_answer-requires
size_answer-requires c =
    let f = suited _ _ _ (sym c.sizes_fit.ensures ∙ c.if-not-sizes_fit.false) in
    record { greatest_le_max_chunk = omega arith; before_le_max_chunk = omega (arith, f.salt-within) }

pub returns : goal.returns
returns c =
    request-sized _ _ _ _ _ _ _ (sym c.sizes_fit.ensures ∙ c.if-not-sizes_fit.false) (sym c.is_address.ensures ∙ c.if-not-is_address.false)
    (sym c.padding_lawful.ensures ∙ c.if-not-padding_lawful.false) _ c.variable_length-n.ensures _ c.begin.ensures _ c.size_answer.ensures
