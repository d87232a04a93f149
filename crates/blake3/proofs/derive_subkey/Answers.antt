use mathlib.Core.Path.{◌∙◌}
use Rattle.blake3.proofs.DerivationLaws.{derive-subkey}
use Rattle.blake3.proofs.derive_subkey.Goals as goal

pub returns : goal.returns
returns c = c.derive_at.ensures ∙ derive-subkey c.args.material.now
