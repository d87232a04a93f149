use Rattle.gcm.proofs.KeyedLaws.{in-place-short, in-place-refused, in-place-done}
use Rattle.gcm.proofs.seal_in_place_with.Goals as goal

pub returns-then-body-lt-TAG : goal.returns-then-body-lt-TAG
returns-then-body-lt-TAG c = let all = in-place-short _ _ _ c.if-body-lt-TAG.true in record { value = all.0; body_after = all.1 }

pub returns-in_default : goal.returns-in_default
returns-in_default c = let all = in-place-refused _ _ _ c.if-body-lt-TAG.false c.in_default.ensures.none in record { value = all.0; body_after = all.1 }

pub returns : goal.returns
returns c =
    let f = c.in-Some.ensures.some in
    let all = in-place-done _ _ _ c.in-Some.nk c.expand-w.result _ c.if-body-lt-TAG.false f.lawful f.words_are c.expand-w.ensures.result_value c.seal_in_place_at.ensures in record { value = all.0; body_after = all.1 }
