use Rattle.aes_tables.specs.Field.{x_times, times, ◌•◌}
use Rattle.aes_tables.specs.Tables.{inv_mix_entry}
use Rattle.aes_tables.proofs.Substitution.{is-table}
use Rattle.aes_tables.proofs.inv_mix_table.Goals as goal

pub returns : goal.returns
unfolding x_times times ◌•◌ inv_mix_entry
returns c = is-table inv_mix_entry _ tt tt
