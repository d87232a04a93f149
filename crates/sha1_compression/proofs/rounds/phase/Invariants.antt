use Rattle.std.proofs.Common.{◌≡◌}
use Rattle.sha1_compression.specs.Rounds.{rounds}
use Rattle.sha1_compression.proofs.rounds.phase.Given as goal

abbrev pub invariant-loop-word : goal.invariant-loop-word
invariant-loop-word g l = l.z ≡ rounds l.word-index l.from l.fn.s l.w
