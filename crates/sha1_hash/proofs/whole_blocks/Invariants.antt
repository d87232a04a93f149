use Rattle.std.proofs.Common.{◌≡◌, ◌/◌, length}
use Rattle.sha1_hash.specs.Hash.{chain}
use Rattle.sha1_hash.proofs.whole_blocks.Given as goal

abbrev pub invariant-loop-block : goal.invariant-loop-block
invariant-loop-block l =
    let left = l.block-iterator.rest.now in
    (l.block-iterator.size ≡ 64) × (chain (length left / 64) l.z left ≡ chain (length l.s / 64) l.fn.h l.s)
