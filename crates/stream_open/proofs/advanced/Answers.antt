use Rattle.stream_open.proofs.ChunkLaws.{advanced-law}
use Rattle.stream_open.proofs.advanced.Goals as goal

pub returns : goal.returns
returns c = let a = c.args in advanced-law a.stream a.n _ c.turn_after.ensures
