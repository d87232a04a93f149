use mathlib.Core.Path.{ap, ◌∙◌}
use mathlib.Core.List.{List, ◌++◌}
use Prim.Native.Nat.{ℕ}
use Rattle.aes.specs.Words.{block_bytes}
use Rattle.octets.specs.Buffers.{◌⊞◌}
use Rattle.aes.specs.Cipher.{at, state}
use Rattle.aes_inverse.specs.InvCipher.{inv_sub_bytes, inv_shift_rows}
use Rattle.aes_inverse.proofs.sub_round.Goals as goal

pub returns : goal.returns
unfolding block_bytes at state inv_sub_bytes inv_shift_rows
returns c =
    c.add.ensures
    ∙ ap (λ (l : List ℕ). l ⊞ block_bytes c.args.k)
    (λ i. c.sub_column.ensures i ++ (c.sub_column-2.ensures i ++ (c.sub_column-3.ensures i ++ c.sub_column-4.ensures i)))
