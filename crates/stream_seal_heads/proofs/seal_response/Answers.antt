use mathlib.Core.Path.{refl}
use Rattle.stream_seal_heads.proofs.HeadAnswerLaws.{response-answered}
use Rattle.stream_seal_heads.proofs.HeadWriteLaws.{response-under}
use Rattle.stream_seal_heads.proofs.seal_response.Goals as goal

pub invariant_of-key : goal.invariant_of-key
invariant_of-key c =
    record { key_for = (response-answered _ _ _ _ _ _ _ _ _ c.response_answer.ensures c.in_ok-n.was).good _ c.cipher_of.ensures }

pub write_response-requires : goal.write_response-requires
write_response-requires c =
    let f = response-answered _ _ _ _ _ _ _ _ _ c.response_answer.ensures c.in_ok-n.was in
    record { key_len = refl; binding_len = f.bound; payload_len_bound = f.most; n_value = f.size; n_in_bounds = f.space }

pub returns-clause-out_after : goal.returns-clause-out_after
returns-clause-out_after c =
    response-under _ _ c.cipher_of.ensures _ _ _ _ _ _ (response-answered _ _ _ _ _ _ _ _ _ c.response_answer.ensures c.in_ok-n.was).held _ _
    c.write_response.ensures
