use Rattle.std.proofs.Common.{ℕ, ◌-◌, List, ◌++◌, length, take, drop, ap, ◌∙◌, arith, length-drop}
use Rattle.octets.specs.Buffers.{◌⊞◌}
use Rattle.octets.proofs.BufferLaws.{rest, part-put}
use Rattle.chacha.specs.ChaCha.{stream}
use Rattle.chacha.proofs.StreamLaws.{length-key_stream, length-stream, behind-first, in_one, in_two}
use Rattle.chacha.proofs.xor_with_blocks.Goals as goal

pub slice_bounds-xor_into-count : goal.slice_bounds-xor_into-count
slice_bounds-xor_into-count c =
    let a = c.args in
    omega (arith, ap length c.requires, length-key_stream a.n a.key.now 0 a.nonce.now 4)

pub slice_bounds-xor_into-start : goal.slice_bounds-xor_into-start
slice_bounds-xor_into-start c =
    let a = c.args in
    omega (arith, ap length c.requires, length-key_stream a.n a.key.now 0 a.nonce.now 4)

pub returns-then-s-le192 : goal.returns-then-s-le192
returns-then-s-le192 c =
    let a = c.args in
    let e = c.xor_into.ensures ∙ ap (λ (t : List ℕ). a.s.now ⊞ t)
    (rest a.four.now 64 ∙ ap (drop 64) c.requires ∙ behind-first a.n a.key.now 0 a.nonce.now 3) in
    in_one a.n a.key.now 1 a.nonce.now a.s.now 3 _ e c.if-s-le192.true

pub returns : goal.returns
returns c =
    let a = c.args in
    let e = c.xor_into.ensures ∙ ap (λ (t : List ℕ). a.s.now ⊞ t)
    (rest a.four.now 64 ∙ ap (drop 64) c.requires ∙ behind-first a.n a.key.now 0 a.nonce.now 3) in
    let later = stream a.n a.key.now 4 a.nonce.now (drop 192 c.xor_into.new.out) in
    in_two a.n a.key.now 1 a.nonce.now a.s.now 3 c.xor_into.new.out e _
    (ap (λ (ys : List ℕ). take 192 c.xor_into.new.out ++ (ys ++ drop (length c.xor_into.new.out - 192) (drop 192 c.xor_into.new.out)))
    (c.xor_stream.ensures ∙ ap (stream a.n a.key.now 4 a.nonce.now) (rest c.xor_into.new.out 192))
    ∙ part-put c.xor_into.new.out later 192 (length c.xor_into.new.out - 192) (length-stream a.n a.key.now 4 a.nonce.now (drop 192 c.xor_into.new.out) ∙ length-drop 192 c.xor_into.new.out))
