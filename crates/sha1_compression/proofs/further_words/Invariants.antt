use Rattle.std.proofs.Common.{◌≡◌, ℕ, ◌-◌, ◌^◌, ◌<◌, List, length, take, get_or}
use Rattle.sha1_compression.specs.Schedule.{schedule}
use Rattle.sha1_compression.proofs.further_words.Given as goal

abbrev pub invariant-loop-t : goal.invariant-loop-t
invariant-loop-t l =
    (length l.w ≡ 80) × ((i : ℕ) → get_or l.w i 0 < 2 ^ 32)
    × ((m : List ℕ) → length m ≡ 16 → take 32 l.initial.w ≡ schedule 16 m → take l.t l.w ≡ schedule (l.t - 16) m)
