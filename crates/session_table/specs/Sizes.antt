-- The sizes of the session table, and how long it remembers.
use Rattle.std.specs.Prelude.{ℕ}
pub use Rattle.retention.specs.Retention.{least_retention, greatest_retention, default_retention}

-- the most sessions that are alive at a time
abbrev pub capacity : ℕ
capacity = 64
