use Rattle.stream_seal_heads.proofs.HeadAnswerLaws.{request-answered}
use Rattle.stream_seal_heads.proofs.HeadWriteLaws.{request-under}
use Rattle.stream_seal_heads.proofs.seal_request.Goals as goal

pub invariant_of-key : goal.invariant_of-key
invariant_of-key c =
    record { key_for = (request-answered _ _ _ _ _ _ _ _ _ _ c.request_answer.ensures c.in_ok-n.was).good _ c.cipher_of.ensures }

pub write_request-requires : goal.write_request-requires
write_request-requires c =
    let f = request-answered _ _ _ _ _ _ _ _ _ _ c.request_answer.ensures c.in_ok-n.was in
    record { payload_bound = f.most; n_value = f.size; n_in_bounds = f.space }

pub returns-clause-out_after : goal.returns-clause-out_after
returns-clause-out_after c =
    request-under _ _ c.cipher_of.ensures _ _ _ _ _ _ (request-answered _ _ _ _ _ _ _ _ _ _ c.request_answer.ensures c.in_ok-n.was).held _ _ _
    c.write_request.ensures
