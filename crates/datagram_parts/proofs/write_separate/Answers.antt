use native.Mathlib.Omega.{arith}
use Rattle.datagram_parts.proofs.WritingLaws.{block-law}
use Rattle.datagram_parts.proofs.write_separate.Goals as goal

pub returns : goal.returns
returns c =
    block-law _ _ _ _ _ c.args.key.now.usable c.requires.separate_length_in_bounds (omega arith) c.copy.ensures c.encrypt_with.ensures.block_after
