use Rattle.aes_tables.proofs.Substitution.{s-table}
use Rattle.aes_tables.proofs.sbox.Goals as goal

pub returns : goal.returns
returns c = s-table
