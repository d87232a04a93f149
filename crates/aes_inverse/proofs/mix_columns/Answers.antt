use mathlib.Core.List.{◌++◌}
use Rattle.aes.specs.Words.{block_bytes}
use Rattle.aes.specs.Cipher.{at, by_column}
use Rattle.aes_inverse.specs.InvCipher.{inv_mix_columns}
use Rattle.aes_inverse.proofs.mix_columns.Goals as goal

pub returns : goal.returns
unfolding block_bytes at by_column inv_mix_columns
returns c =
    λ i. c.mix_column.ensures i ++ (c.mix_column-2.ensures i ++ (c.mix_column-3.ensures i ++ c.mix_column-4.ensures i))
