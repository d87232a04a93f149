use Rattle.std.proofs.Common.{◌++◌, length, ap, ◌∙◌, zero-add}
use Rattle.sha1_hash.specs.Hash.{padding, padded, all_blocks, digest_bytes, sha1}
use Rattle.sha1_hash.proofs.hash.Goals as goal

pub returns : goal.returns
unfolding padded sha1
returns c =
    let s = c.args.s.now in
    c.digest.ensures
    ∙ ap digest_bytes
    (c.finish.ensures
    ∙ λ i. all_blocks (c.initial.ensures i) (s ++ padding (zero-add (length s) i)))
