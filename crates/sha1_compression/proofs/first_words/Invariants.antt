use Rattle.std.proofs.Common.{◌≡◌, ◌-◌, take}
use Rattle.sha1_compression.specs.Schedule.{schedule}
use Rattle.sha1_compression.proofs.first_words.Given as goal

abbrev pub invariant-loop-t : goal.invariant-loop-t
invariant-loop-t l = take l.t l.w ≡ schedule (l.t - 16) (take 16 l.initial.w)
