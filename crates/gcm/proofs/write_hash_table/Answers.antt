use mathlib.Core.Path.{subst}
use Rattle.ghash.specs.Table.{TableFor}
use Rattle.gcm.proofs.write_hash_table.Goals as goal

pub returns : goal.returns
returns c = subst (TableFor c.write_table.new.t) c.hash_key-h.ensures c.write_table.ensures
