use Rattle.hkdf.specs.Hkdf.{extract}
use Rattle.hkdf.proofs.extract.Goals as goal

pub returns : goal.returns
unfolding extract
returns c = c.hmac.ensures
