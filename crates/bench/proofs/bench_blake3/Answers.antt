use mathlib.Core.Path.{ap, ◌∙◌}
use Rattle.octets.specs.Buffers.{put}
use Rattle.bench.proofs.DigestLaws.{no_room, digest-done}
use Rattle.bench.proofs.bench_blake3.Goals as goal

pub returns : goal.returns
returns c = let all = digest-done _ _ c.if-out-lt32.false _ (c.copy.ensures ∙ ap (put _ 0) c.hash-digest.ensures) in record { value = all.0; out_after = all.1 }

pub returns-then-out-lt32 : goal.returns-then-out-lt32
returns-then-out-lt32 c = let all = no_room _ _ c.if-out-lt32.true in record { value = all.0; out_after = all.1 }
