use mathlib.Core.Path.{ap, ◌∙◌}
use mathlib.Core.List.{◌++◌}
use Prim.Native.Nat.{◌+◌}
use native.Mathlib.Omega.{arith}
use Rattle.octets.proofs.BufferLaws.{octets-fit}
use Rattle.aes.specs.Words.{bytes, block_bytes}
use Rattle.aes.proofs.WordLaws.{bytes_read, four-words}
use Rattle.aes.proofs.read_block.Goals as goal

pub returns : goal.returns
unfolding block_bytes
returns c =
    let a = c.args in
    let s = c.args.s.now in
    let p = octets-fit s c.shared_slice_known-1.given in
    (λ i. (ap bytes c.read_u32_le.ensures ∙ bytes_read s a.at p (omega arith)) i
    ++ ((ap bytes c.read_u32_le-2.ensures ∙ bytes_read s (a.at + 4) p (omega arith)) i
    ++ ((ap bytes c.read_u32_le-3.ensures ∙ bytes_read s (a.at + 8) p (omega arith)) i
    ++ (ap bytes c.read_u32_le-4.ensures ∙ bytes_read s (a.at + 12) p (omega arith)) i)))
    ∙ four-words s a.at
