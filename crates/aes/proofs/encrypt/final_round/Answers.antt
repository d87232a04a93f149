use mathlib.Core.Path.{ap, ◌∙◌}
use mathlib.Core.List.{List, ◌++◌}
use Prim.Native.Nat.{ℕ}
use Rattle.aes.specs.Words.{block_bytes}
use Rattle.octets.specs.Buffers.{◌⊞◌}
use Rattle.aes.specs.Cipher.{at, state, sub_bytes, shift_rows}
use Rattle.aes.proofs.encrypt.final_round.Goals as goal

pub returns : goal.returns
unfolding block_bytes at state sub_bytes shift_rows
returns c =
    c.add.ensures
    ∙ ap (λ (l : List ℕ). l ⊞ block_bytes c.args.k)
    (λ i. c.last_column.ensures i ++ (c.last_column-2.ensures i ++ (c.last_column-3.ensures i ++ c.last_column-4.ensures i)))
