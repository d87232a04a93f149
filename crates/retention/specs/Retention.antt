-- The retention R, in seconds: how long a silent session is remembered.
use Rattle.std.specs.Prelude.{Bool, cond, ◌&&◌, ℕ, leb, eqb}

-- the least, the greatest, and the one that 0 stands for when a table is made
abbrev pub least_retention : ℕ
least_retention = 60

abbrev pub greatest_retention : ℕ
greatest_retention = 3600

abbrev pub default_retention : ℕ
default_retention = 300

-- of a table
abbrev pub in_range : ℕ → Bool
in_range R = leb least_retention R && leb R greatest_retention

-- of a table that is made with R
abbrev pub made_retention : ℕ → ℕ
made_retention R = cond (eqb R 0) default_retention R

-- a table can be made with R
abbrev pub lawful_retention : ℕ → Bool
lawful_retention R = in_range (made_retention R)
