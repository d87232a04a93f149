use Rattle.aes_tables.proofs.Substitution.{inv-table}
use Rattle.aes_tables.proofs.inv_sbox.Goals as goal

pub returns : goal.returns
returns c = inv-table
