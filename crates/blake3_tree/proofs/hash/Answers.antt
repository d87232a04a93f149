use mathlib.Core.Path.{◌≡◌}
use Prim.Native.Nat.{◌≤◌}
use native.Mathlib.Omega.{arith}
use borrow.Author.Rules.{rules}
use lib.ListN.{length}
use Rattle.blake3.specs.Words.{word_bytes}
use Rattle.blake3.proofs.WordLaws.{length-word_bytes}
use Rattle.blake3_tree.proofs.HashLaws.{hashed}
use Rattle.blake3_tree.proofs.hash.Goals as goal

pub returns : goal.returns
returns c =
    let w = c.subtree-words.result in
    let l : length w ≡ 8 = search rules in
    let h : 32 ≤ length (word_bytes w) = omega (arith, length-word_bytes w, l) in
    hashed c.args.s.now h c.subtree-words.ensures c.write_words.ensures
