use Rattle.std.proofs.Common.{ℕ, ◌-◌, ◌*◌, ◌/◌, List, length, take, drop, replicate, refl, ap, ◌∙◌}
use Rattle.octets.specs.Buffers.{put}
use Rattle.octets.specs.Numbers.{to_be}
use Rattle.octets.proofs.BufferLaws.{rest}
use Rattle.sha1_compression.specs.declared.State.{State}
use Rattle.sha1_compression.specs.Schedule.{block_words}
use Rattle.sha1_compression.specs.Compression.{compressed}
use Rattle.sha1_hash.proofs.ChainLaws.{finish-one, finish-two}
use Rattle.sha1_hash.proofs.finish.Goals as goal

pub returns-then-s-at-lt56 : goal.returns-then-s-at-lt56
returns-then-s-at-lt56 c =
    let a = c.args in
    let s = c.args.s.now in
    let at = length s / 64 * 64 in
    let bits = c.bit_length-bits.result in
    finish-one a.h s (take (length s - at) (drop at s)) a.blocks bits at c.bit_length-bits.ensures refl c.if-s-at-lt56.true
    c.whole_blocks-z.ensures (rest s at)
    (c.with_length.ensures
    ∙ ap (λ (x : List ℕ). compressed c.whole_blocks-z.result (block_words (put x 56 (to_be 8 bits)))) c.marked-b.ensures)

pub returns-else-s-at-lt56 : goal.returns-else-s-at-lt56
returns-else-s-at-lt56 c =
    let a = c.args in
    let s = c.args.s.now in
    let at = length s / 64 * 64 in
    let bits = c.bit_length-bits.result in
    finish-two a.h s (take (length s - at) (drop at s)) a.blocks bits at c.bit_length-bits.ensures refl c.if-s-at-lt56.false
    c.whole_blocks-z.ensures (rest s at)
    (c.with_length-else-s-at-lt56.ensures
    ∙ ap (λ (z : State). compressed z (block_words (put (replicate 64 0) 56 (to_be 8 bits))))
    (c.compress.ensures ∙ ap (λ (y : List ℕ). compressed c.whole_blocks-z.result (block_words y)) c.marked-b.ensures))
