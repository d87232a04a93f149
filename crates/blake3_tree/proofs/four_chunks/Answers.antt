use mathlib.Core.Path.{◌∙◌}
use native.Mathlib.Omega.{arith}
use Rattle.blake3_tree.specs.Subtree.{flag}
use Rattle.blake3_tree.proofs.FourLaws.{four}
use Rattle.blake3_tree.proofs.four_chunks.Goals as goal

pub returns : goal.returns
returns c =
    let a = c.args in
    four a.t (flag a.place) a.s.now c.requires.s_len
    (c.value.ensures ∙ c.compress_chunks.ensures.values 0 (omega arith))
    (c.value-2.ensures ∙ c.compress_chunks.ensures.values 1 (omega arith))
    (c.value-3.ensures ∙ c.compress_chunks.ensures.values 2 (omega arith))
    (c.value-4.ensures ∙ c.compress_chunks.ensures.values 3 (omega arith))
    c.parent_words-left.ensures
    c.parent_words-right.ensures
    c.parent_words.ensures
