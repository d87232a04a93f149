use mathlib.Core.Path.{refl, ap, ◌∙◌}
use Prim.Native.Nat.{◌+◌}
use native.Mathlib.Omega.{arith}
use lib.ListN.{length}
use Rattle.blake3_compression.specs.Compression.{first_eight, compressed}
use Rattle.blake3.specs.Words.{block_words}
use Rattle.blake3.specs.Tree.{chunk}
use Rattle.blake3_tree.specs.Subtree.{flag}
use Rattle.blake3_tree.proofs.ChunkLaws.{blocks_of, one_block_more, chunk-last}
use Rattle.blake3_tree.proofs.chunk_words.Goals as goal

pub loop-rest-init : goal.loop-rest-init
unfolding chunk
loop-rest-init c = (omega arith, refl)

pub loop-rest-preserved : goal.loop-rest-preserved
loop-rest-preserved c =
    let l = c.loop-rest in
    let s = l.rest.now in
    let p = c.split_at.ensures in
    let h = c.block_value-next.result in
    let e = c.block_value-next.ensures ∙ ap (λ b. first_eight (compressed l.h (block_words b) c.args.t 64 l.d)) p.front in (
      omega arith,
      ap (blocks_of h c.args.t 0) p.back ∙ one_block_more l.h c.args.t l.d s (omega arith) e ∙ l.invariant.1,
    )

pub returns : goal.returns
returns c =
    let l = c.loop-rest in
    let t = c.args.t in
    let o = c.compress.ensures ∙ ap (λ f. compressed l.h c.block_words-words.result t (length l.rest.now) (l.d + 2 + f)) c.flag.ensures.value in
    chunk-last l.h t l.d l.rest.now (flag c.args.place) (omega arith) c.block_words-words.ensures o c.first_eight.ensures l.invariant.1
