use mathlib.Core.Path.{◌≡◌, ◌∙◌}
use Prim.Native.Nat.{◌≤◌}
use native.Mathlib.Omega.{arith}
use borrow.Author.Rules.{rules}
use lib.ListN.{length, replicate}
use Rattle.octets.proofs.BufferLaws.{put_whole}
use Rattle.blake3.specs.Words.{word_bytes}
use Rattle.blake3.proofs.WordLaws.{length-word_bytes}
use Rattle.blake3.proofs.word_bytes.Goals as goal

pub returns : goal.returns
returns c =
    let o = c.args.o in
    let l : length o ≡ 16 = search rules in
    let h : 64 ≤ length (word_bytes o) = omega (arith, length-word_bytes o, l) in
    c.write_words.ensures ∙ put_whole (replicate 64 0) (word_bytes o) h
