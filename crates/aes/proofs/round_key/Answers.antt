use Rattle.aes.specs.Words.{block_bytes}
use Rattle.aes.proofs.RoundLaws.{round-key-law}
use Rattle.aes.proofs.round_key.Goals as goal

pub returns : goal.returns
unfolding block_bytes
returns c = round-key-law c.args.w.now c.args.r
