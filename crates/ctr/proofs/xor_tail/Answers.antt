use Rattle.std.proofs.Common.{◌≡◌, ℕ, ◌-◌, List, ◌++◌, length, take, drop, ap, ◌∙◌, length-drop}
use Rattle.octets.specs.Buffers.{put, ◌⊞◌}
use Rattle.octets.proofs.BufferLaws.{length-xor, rest, part-put}
use Rattle.aes.specs.Words.{block_bytes}
use Rattle.ctr.proofs.xor_tail.Goals as goal

pub returns : goal.returns
unfolding put block_bytes
returns c =
    let a = c.args in
    let d = c.args.text.now in
    let e : length (drop a.at d ⊞ block_bytes a.k) ≡ length d - a.at = length-xor _ _ ∙ length-drop a.at d in
    ap (λ (ys : List ℕ). take a.at d ++ (ys ++ drop (length d - a.at) (drop a.at d)))
    (c.xor_into.ensures
    ∙ (λ i. rest d a.at i ⊞ c.write_block.ensures i))
    ∙ part-put d (drop a.at d ⊞ block_bytes a.k) a.at (length d - a.at) e
