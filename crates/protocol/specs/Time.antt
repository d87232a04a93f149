-- When a timestamp is valid at a clock: the two differ by at most 30 seconds, as whole numbers.
use Rattle.std.specs.Prelude.{Bool, ◌&&◌, ℕ, ◌+◌, leb}

abbrev pub tolerance : ℕ
tolerance = 30

unfoldable pub time_valid : ℕ → ℕ → Bool
time_valid time clock = leb time (clock + tolerance) && leb clock (time + tolerance)
