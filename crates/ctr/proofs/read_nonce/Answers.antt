use Rattle.std.proofs.Common.{◌++◌, ◌∙◌}
use Rattle.octets.proofs.BufferLaws.{octets-fit}
use Rattle.aes.specs.Words.{bytes}
use Rattle.ctr.specs.Words.{nonce_bytes}
use Rattle.ctr.proofs.CounterLaws.{nonce-words}
use Rattle.ctr.proofs.read_nonce.Goals as goal

pub returns : goal.returns
unfolding nonce_bytes
returns c =
    let s = c.args.s.now in
    (λ i. bytes (c.read_u32_le.ensures i) ++ (bytes (c.read_u32_le-2.ensures i) ++ bytes (c.read_u32_le-3.ensures i)))
    ∙ nonce-words s (octets-fit s c.shared_slice_known-1.given) c.requires
