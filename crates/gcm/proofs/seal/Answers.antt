use Rattle.gcm.proofs.KeyedLaws.{seal-refused, seal-done}
use Rattle.gcm.proofs.seal.Goals as goal

pub returns-in_default : goal.returns-in_default
returns-in_default c = let all = seal-refused _ _ _ _ c.in_default.ensures.none in record { value = all.0; out_after = all.1 }

pub returns : goal.returns
returns c =
    let f = c.in-Some.ensures.some in
    let all = seal-done _ _ _ _ c.in-Some.nk c.expand-w.result _ f.lawful f.words_are c.expand-w.ensures.result_value c.seal_at.ensures in record { value = all.0; out_after = all.1 }
