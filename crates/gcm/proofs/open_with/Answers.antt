use mathlib.Core.Path.{sym, ap, ◌∙◌}
use mathlib.Core.Bool.{true}
use Rattle.gcm.specs.Keyed.{answer}
use Rattle.gcm.proofs.KeyedLaws.{open-short, open-refused, open_done}
use Rattle.gcm.proofs.open_with.Goals as goal

pub returns-then-s-lt-TAG : goal.returns-then-s-lt-TAG
returns-then-s-lt-TAG c = let all = open-short _ _ _ _ c.if-s-lt-TAG.true in record { value = all.0; out_after = all.1 }

pub returns-in_default : goal.returns-in_default
returns-in_default c = let all = open-refused _ _ _ _ c.if-s-lt-TAG.false c.in_default.ensures.none in record { value = all.0; out_after = all.1 }

pub returns-then-open_at : goal.returns-then-open_at
returns-then-open_at c =
    let f = c.in-Some.ensures.some in
    let d =
    open_done _ _ _ _ c.in-Some.nk c.expand-w.result _ _ c.open_at.result c.if-s-lt-TAG.false f.lawful
    f.words_are c.expand-w.ensures.result_value c.read_nonce.ensures c.open_at.ensures.value c.open_at.ensures.out_after in record { value = ap (answer true) (sym c.if-open_at.true) ∙ d.0; out_after = d.1 }

pub returns : goal.returns
returns c =
    let f = c.in-Some.ensures.some in
    let d =
    open_done _ _ _ _ c.in-Some.nk c.expand-w.result _ _ c.open_at.result c.if-s-lt-TAG.false f.lawful
    f.words_are c.expand-w.ensures.result_value c.read_nonce.ensures c.open_at.ensures.value c.open_at.ensures.out_after in record { value = ap (answer true) (sym c.if-open_at.false) ∙ d.0; out_after = d.1 }
