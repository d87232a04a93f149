use Prim.Native.Nat.{◌+◌}
use mathlib.Core.Path.{ap}
use Rattle.blake3_tree.specs.Subtree.{flag}
use Rattle.blake3_tree.proofs.JoinLaws.{parent-last}
use Rattle.blake3_tree.proofs.parent_words.Goals as goal

pub returns : goal.returns
returns c =
    let a = c.args in
    parent-last a.left a.right (flag a.place) c.joined.ensures c.compress.ensures c.first_eight.ensures
    (ap (λ x. 4 + x) c.flag-flags.ensures.value)
