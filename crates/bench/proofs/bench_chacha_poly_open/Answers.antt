use mathlib.Core.Path.{sym, ap, ◌∙◌}
use mathlib.Core.Bool.{Bool, cond}
use Rattle.bench.proofs.TagLaws.{no-tag-to-open, no-room-for-text, judged}
use Rattle.bench.proofs.bench_chacha_poly_open.Goals as goal

pub returns-then-open : goal.returns-then-open
returns-then-open c =
    let d = judged _ _ _ _ c.if-s-lt16.false c.if-out-s.false _ c.open.ensures.value _ c.open.ensures.out_after in record { value = ap (λ (b : Bool). cond b 0 2) (sym c.if-open.true) ∙ d.0; out_after = d.1 }

pub returns-else-open : goal.returns-else-open
returns-else-open c =
    let d = judged _ _ _ _ c.if-s-lt16.false c.if-out-s.false _ c.open.ensures.value _ c.open.ensures.out_after in record { value = ap (λ (b : Bool). cond b 0 2) (sym c.if-open.false) ∙ d.0; out_after = d.1 }

pub returns-then-s-lt16 : goal.returns-then-s-lt16
returns-then-s-lt16 c = let all = no-tag-to-open _ _ _ _ c.if-s-lt16.true in record { value = all.0; out_after = all.1 }

pub returns-then-out-s : goal.returns-then-out-s
returns-then-out-s c = let all = no-room-for-text _ _ _ _ c.if-s-lt16.false c.if-out-s.true in record { value = all.0; out_after = all.1 }
