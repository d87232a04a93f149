use Rattle.std.proofs.Common.{◌≡◌, ℕ, ◌+◌, ◌*◌, ◌%◌, length, ap, sym, ◌∙◌}
use Rattle.std.proofs.lemmas.Bool.{eqb-true, eqb-false}
use Rattle.poly1305.specs.Limbs.{value}
use Rattle.poly1305.specs.Poly1305.{mod_p}
use Rattle.poly1305.proofs.MessageLaws.{padded-whole, padded-short}
use Rattle.poly1305.proofs.blocks.all_padded.Goals as goal

pub returns-then-is_empty-clause-result_value : goal.returns-then-is_empty-clause-result_value
returns-then-is_empty-clause-result_value c =
    let size = ap length c.remainder-rest.ensures ∙ c.chunks_exact.ensures.remainder_len in
    let none = sym size ∙ eqb-true _ _ (sym c.if-is_empty.ensures) in
    padded-whole (value c.args.r) _ c.args.s.now c.whole-a.ensures.result_value none

pub returns-clause-result_value : goal.returns-clause-result_value
returns-clause-result_value c =
    let r = value c.args.r in
    let n = mod_p (value c.whole-a.result) in
    let size = ap length c.remainder-rest.ensures ∙ c.chunks_exact.ensures.remainder_len in
    let some : length c.args.s.now % 16 ≡ 0 → ⊥ = λ e. eqb-false _ _ (sym c.if-is_empty.ensures) (size ∙ e) in
    c.step.ensures.result_value ∙ ap (λ (x : ℕ). mod_p ((n + x) * r)) c.first.ensures.result_value
    ∙ padded-short r n c.args.s.now c.whole-a.ensures.result_value _ some (c.remainder-rest.ensures ∙ c.chunks_exact.ensures.remainder)
