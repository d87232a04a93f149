use mathlib.Core.Path.{ap, ◌∙◌}
use mathlib.Core.List.{List}
use Prim.Native.Nat.{ℕ, ◌+◌}
use native.Mathlib.Omega.{arith}
use Rattle.octets.specs.Buffers.{put}
use Rattle.octets.specs.Numbers.{to_le}
use Rattle.aes.specs.Words.{block_bytes}
use Rattle.aes.proofs.WordLaws.{to_le-bytes, put-words}
use Rattle.aes.proofs.write_block.Goals as goal

pub returns : goal.returns
unfolding block_bytes
returns c =
    let a = c.args in
    let d = c.args.out.now in
    let at = c.args.at in
    let x = c.args.x in
    c.write_u32_le-4.ensures
    ∙ ap (λ (o : List ℕ). put o (at + 12) (to_le 4 x.d))
    (c.write_u32_le-3.ensures
    ∙ ap (λ (o : List ℕ). put o (at + 8) (to_le 4 x.c))
    (c.write_u32_le-2.ensures ∙ ap (λ (o : List ℕ). put o (at + 4) (to_le 4 x.b)) c.write_u32_le.ensures))
    ∙ (λ i. put (put (put (put d at (to_le-bytes x.a i)) (at + 4) (to_le-bytes x.b i)) (at + 8) (to_le-bytes x.c i)) (at + 12) (to_le-bytes x.d i))
    ∙ put-words d at x.a x.b x.c x.d (omega arith)
