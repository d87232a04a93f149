use mathlib.Core.Path.{ap, ◌∙◌}
use mathlib.Core.List.{List, ◌++◌}
use Prim.Native.Nat.{ℕ}
use Rattle.aes.specs.Words.{block_bytes}
use Rattle.octets.specs.Buffers.{◌⊞◌}
use Rattle.aes.specs.Cipher.{at, state, by_column, sub_bytes, shift_rows, mix_columns}
use Rattle.aes.proofs.encrypt.round.Goals as goal

pub returns : goal.returns
unfolding block_bytes at state by_column sub_bytes shift_rows mix_columns
returns c =
    c.add.ensures
    ∙ ap (λ (l : List ℕ). l ⊞ block_bytes c.args.k)
    (λ i. c.column.ensures i ++ (c.column-2.ensures i ++ (c.column-3.ensures i ++ c.column-4.ensures i)))
