use Rattle.aes_planes.proofs.SubLaws.{load-law}
use Rattle.aes_planes.proofs.sub.load.Goals as goal

pub returns : goal.returns
returns c = load-law _ _
