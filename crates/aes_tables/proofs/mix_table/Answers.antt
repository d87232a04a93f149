use Rattle.aes_tables.specs.Field.{x_times, times, ◌•◌}
use Rattle.aes_tables.proofs.Entries.{mixed, mix-table}
use Rattle.aes_tables.proofs.mix_table.Goals as goal

pub returns : goal.returns
unfolding x_times times ◌•◌ mixed
returns c = mix-table _ tt tt
