use mathlib.Core.Path.{sym}
use native.Mathlib.Omega.{arith}
use lib.Seq.{length-take-le}
use Rattle.stream_open_response.proofs.ResponseLaws.{response-settings, response-salt, response-more, response-done, salted}
use Rattle.stream_open_response.proofs.open_response.Goals as goal
use Rattle.stream_open_response.proofs.open_response.Goals.{then-not-key_fits-via-then-not-key_fits, then-not-key_fits-via-else-not-key_fits+then-request_salt-n}

pub returns-then-not-key_fits : goal.returns-then-not-key_fits
returns-then-not-key_fits c =
    elim c.then-not-key_fits.branch [
      | then-not-key_fits-via-then-not-key_fits w ↦ response-settings _ _ _ _ _ _ c.key_fits.ensures w.if-not-key_fits.true
      | then-not-key_fits-via-else-not-key_fits+then-request_salt-n w ↦
          response-salt _ _ _ _ _ _ c.key_fits.ensures w.if-not-key_fits.false _ c.salt_length-n.ensures w.if-request_salt-n.true
    ]

pub overflow_add-due-2 : goal.overflow_add-due-2
overflow_add-due-2 c =
    let h = salted _ _ _ _ c.key_fits.ensures c.if-not-key_fits.false c.salt_length-n.ensures in
    record { fits = omega (arith, h.most) }

pub returns-then-s-due : goal.returns-then-s-due
returns-then-s-due c =
    response-more _ _ _ _ _ _ c.key_fits.ensures c.if-not-key_fits.false _ c.salt_length-n.ensures c.if-request_salt-n.false c.if-s-due.true

pub slice_bounds-derive-end : goal.slice_bounds-derive-end
slice_bounds-derive-end c = sym (length-take-le _ _ (omega (arith, c.if-s-due.false)))

pub derive-requires : goal.derive-requires
derive-requires c =
    let h = salted _ _ _ _ c.key_fits.ensures c.if-not-key_fits.false c.salt_length-n.ensures in
    let l = length-take-le c.salt_length-n.result c.args.s.now (omega (arith, c.if-s-due.false)) in
    record { key_len_bound = omega (arith, h.as-key, h.most); salt_len_bound = omega (arith, l, h.most) }

pub invariant_of-key : goal.invariant_of-key
invariant_of-key c =
    record { key_for = (salted _ _ _ _ c.key_fits.ensures c.if-not-key_fits.false c.salt_length-n.ensures).lawful _ c.cipher_of.ensures }

pub open_response_at-requires : goal.open_response_at-requires
open_response_at-requires c = record { request_salt_len = c.if-request_salt-n.false; n_in_bounds = c.if-s-due.false }

pub returns : goal.returns
returns c =
    response-done _ _ _ _ _ _ c.key_fits.ensures c.if-not-key_fits.false _ c.salt_length-n.ensures c.if-request_salt-n.false c.if-s-due.false _ _ _
    c.derive.ensures c.cipher_of.ensures c.open_response_at.ensures
