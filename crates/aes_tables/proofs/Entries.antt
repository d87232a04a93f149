-- The tables of columns, tested entry by entry over the substitution's table.
-- Assumes nothing.
use mathlib.Core.Path.{ap, ◌∙◌}
use mathlib.Core.List.{List}
use Prim.Native.Nat.{ℕ}
use lib.Dec.{T, eqb}
use lib.ListN.{length, get_or}
use Rattle.octets.proofs.Table.{holds}
use Rattle.aes_tables.specs.Field.{◌•◌}
use Rattle.aes_tables.specs.Tables.{IsTable, column, mix_entry}
use Rattle.aes_tables.proofs.Substitution.{is-table, s_table, s-table}

-- what a substituted byte gives to its column
unfoldable pub mixed : ℕ → ℕ
mixed s = column (2 • s) s s (3 • s)

pub mix-table : (t : List ℕ) → T (eqb (length t) 256) → T (holds (λ x. mixed (get_or s_table x 0)) 0 t) → IsTable mix_entry t
unfolding mix_entry mixed
mix-table t l p =
    record { entry = λ x h. (is-table (λ y. mixed (get_or s_table y 0)) t l p).entry x h ∙ ap mixed (s-table.entry x h) }
