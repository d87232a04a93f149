use Rattle.std.proofs.Common.{ℕ, ◌≤◌, List, length, drop, sym, ap, ◌∙◌, arith, length-drop, take_all}
use Rattle.octets.specs.Buffers.{put, ◌⊞◌}
use Rattle.aes.specs.Words.{block_bytes}
use Rattle.ctr.proofs.xor_block.Goals as goal

-- a whole block
pub returns-then-text-at-ge16 : goal.returns-then-text-at-ge16
returns-then-text-at-ge16 c =
    let a = c.args in
    c.write_block.ensures
    ∙ ap (put a.text.now a.at)
    (c.add.ensures ∙ ap (λ (x : List ℕ). x ⊞ block_bytes a.k) c.read_block-x.ensures)

-- the last, short one
pub returns-else-text-at-ge16 : goal.returns-else-text-at-ge16
returns-else-text-at-ge16 c =
    let a = c.args in
    let rest : length (drop a.at a.text.now) ≤ 16 = omega (arith, length-drop a.at a.text.now) in
    c.xor_tail.ensures
    ∙ ap (λ (t : List ℕ). put a.text.now a.at (t ⊞ block_bytes a.k)) (sym (take_all 16 (drop a.at a.text.now) rest))
