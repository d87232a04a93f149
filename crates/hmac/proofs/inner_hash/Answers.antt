use mathlib.Core.Path.{ap, ◌∙◌}
use Rattle.sha1_hash.specs.Hash.{digest_bytes}
use Rattle.hmac.specs.Hmac.{inner_hash}
use Rattle.hmac.proofs.inner_hash.Goals as goal

pub returns : goal.returns
unfolding inner_hash
returns c = c.digest.ensures ∙ ap digest_bytes c.finish.ensures
