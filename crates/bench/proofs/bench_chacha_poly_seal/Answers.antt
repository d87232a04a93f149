use Rattle.bench.proofs.TagLaws.{no-tag, tag-done}
use Rattle.bench.proofs.bench_chacha_poly_seal.Goals as goal

pub returns : goal.returns
returns c = let all = tag-done _ _ c.if-body-lt16.false _ c.seal_in_place.ensures in record { value = all.0; body_after = all.1 }

pub returns-then-body-lt16 : goal.returns-then-body-lt16
returns-then-body-lt16 c = let all = no-tag _ _ c.if-body-lt16.true in record { value = all.0; body_after = all.1 }
