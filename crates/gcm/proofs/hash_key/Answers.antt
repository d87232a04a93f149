use mathlib.Core.Path.{ap, ap₂, ◌∙◌}
use Rattle.octets.specs.Buffers.{put}
use Rattle.octets.specs.Numbers.{be, to_be}
use Rattle.aes.specs.Words.{block_bytes}
use Rattle.ghash.specs.Words.{words}
use Rattle.ghash.proofs.ElementLaws.{be-words}
use Rattle.gcm.specs.Gcm.{hash_key}
use Rattle.gcm.proofs.hash_key.Goals as goal

pub returns : goal.returns
unfolding hash_key put block_bytes to_be
returns c =
    ap₂ words c.read_u64_be.ensures c.read_u64_be-2.ensures
    ∙ be-words _ 0
    ∙ ap (be 16) (c.write_block.ensures ∙ c.cipher.ensures)
