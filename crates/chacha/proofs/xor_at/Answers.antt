use Rattle.std.proofs.Common.{◌≡◌, ℕ, ◌-◌, List, ◌++◌, length, take, drop, ap, ◌∙◌, length-drop}
use Rattle.octets.specs.Buffers.{put, ◌⊞◌}
use Rattle.octets.proofs.BufferLaws.{length-xor, rest, part-put}
use Rattle.chacha.proofs.xor_at.Goals as goal

pub returns : goal.returns
unfolding put
returns c =
    let a = c.args in
    let d = c.args.s.now in
    let k = c.args.k.now in
    let e : length (drop a.at d ⊞ k) ≡ length d - a.at = length-xor _ _ ∙ length-drop a.at d in
    ap (λ (ys : List ℕ). take a.at d ++ (ys ++ drop (length d - a.at) (drop a.at d)))
    (c.xor_into.ensures ∙ ap (λ (t : List ℕ). t ⊞ k) (rest d a.at))
    ∙ part-put d (drop a.at d ⊞ k) a.at (length d - a.at) e
