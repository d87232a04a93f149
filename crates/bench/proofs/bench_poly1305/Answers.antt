use mathlib.Core.Path.{ap, ◌∙◌}
use Rattle.octets.specs.Buffers.{put}
use Rattle.bench.proofs.TagLaws.{no-tag, tag-done}
use Rattle.bench.proofs.bench_poly1305.Goals as goal

pub returns : goal.returns
returns c = let all = tag-done _ _ c.if-out-lt16.false _ (c.copy.ensures ∙ ap (put _ 0) c.mac-tag.ensures) in record { value = all.0; out_after = all.1 }

pub returns-then-out-lt16 : goal.returns-then-out-lt16
returns-then-out-lt16 c = let all = no-tag _ _ c.if-out-lt16.true in record { value = all.0; out_after = all.1 }
