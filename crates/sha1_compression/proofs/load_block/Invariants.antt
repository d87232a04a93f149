use Rattle.std.proofs.Common.{◌≡◌, take}
use Rattle.sha1_compression.specs.Schedule.{words}
use Rattle.sha1_compression.proofs.load_block.Given as goal

abbrev pub invariant-loop-i : goal.invariant-loop-i
invariant-loop-i l = take l.i l.w ≡ words l.i l.s
