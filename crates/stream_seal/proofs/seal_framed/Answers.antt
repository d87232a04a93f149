use mathlib.Core.Path.{sym, ◌∙◌}
use native.Mathlib.Omega.{arith}
use lib.Seq.{length-take-le}
use Rattle.stream_seal.proofs.SealAnswerLaws.{chunk-answered}
use Rattle.stream_seal.proofs.SealWriteLaws.{chunk-in-front}
use Rattle.stream_seal.proofs.seal_framed.Goals as goal

pub slice_bounds-write_chunk-end : goal.slice_bounds-write_chunk-end
slice_bounds-write_chunk-end c = (chunk-answered c.args.f c.args.stream _ _ _ _ _ c.framed_answer.ensures c.in_ok-n.was).space

pub slice_bounds-write_chunk-end-2 : goal.slice_bounds-write_chunk-end-2
slice_bounds-write_chunk-end-2 c =
    sym (length-take-le _ _ (chunk-answered c.args.f c.args.stream _ _ _ _ _ c.framed_answer.ensures c.in_ok-n.was).space)

pub invariant_of-key : goal.invariant_of-key
invariant_of-key c =
    record { key_for = c.requires.has_cipher (chunk-answered c.args.f c.args.stream _ _ _ _ _ c.framed_answer.ensures c.in_ok-n.was).known }

pub write_chunk-requires : goal.write_chunk-requires
write_chunk-requires c =
    let s = chunk-answered c.args.f c.args.stream _ _ _ _ _ c.framed_answer.ensures c.in_ok-n.was in
    record { counter_lt_last_counter = omega (arith, s.counter); payload_len_bound = omega (arith, s.most, c.requires.greatest_le_max_chunk); body_len = length-take-le _ _ s.space ∙ s.size }

pub returns-clause-out_after : goal.returns-clause-out_after
returns-clause-out_after c =
    let s = chunk-answered c.args.f c.args.stream _ _ _ _ _ c.framed_answer.ensures c.in_ok-n.was in
    chunk-in-front _ _ _ _ _ _ (c.write_chunk.auto.body ∙ length-take-le _ _ s.space) c.write_chunk.ensures
