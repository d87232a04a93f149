-- Each return is one case of the settings and of the front.
use Rattle.std.specs.Prelude.{◌≡◌, Err}
use mathlib.Core.Path.{sym, ap, ◌∙◌}
use Prim.Native.Nat.{◌+◌}
use native.Mathlib.Omega.{arith}
use lib.Seq.{length-take-le}
use borrow.Author.Rules.{rules}
use Rattle.stream_open_request.specs.Requests.{opened_as}
use Rattle.stream_open_request.proofs.RequestLaws.{lawful-settings, request-settings, request-more, request-done}
use Rattle.stream_open_request.proofs.open_request.Goals as goal

pub returns-then-not-settings_fit : goal.returns-then-not-settings_fit
returns-then-not-settings_fit c =
    let a = c.args in let all = request-settings a.method a.key.now a.clock a.s.now a.pool.now _ c.settings_fit.ensures c.if-not-settings_fit.true in record { value = all.0; pool_after = all.1 }

pub overflow_add-used : goal.overflow_add-used
overflow_add-used c =
    let d = lawful-settings _ _ _ _ _ c.settings_fit.ensures c.if-not-settings_fit.false c.salt_length-n.ensures in
    record { fits = omega (arith, d.most) }

pub returns-then-s-used : goal.returns-then-s-used
returns-then-s-used c =
    let a = c.args in let all = request-more a.method a.key.now a.clock a.s.now a.pool.now _ c.settings_fit.ensures c.if-not-settings_fit.false _
    c.salt_length-n.ensures c.if-s-used.true in record { value = all.0; pool_after = all.1 }

pub derive-subkey-requires : goal.derive-subkey-requires
derive-subkey-requires c =
    let d = lawful-settings _ _ _ _ _ c.settings_fit.ensures c.if-not-settings_fit.false c.salt_length-n.ensures in
    record { key_len_bound = omega (arith, d.salt, d.most); salt_len_bound = omega (arith, d.most, length-take-le c.salt_length-n.result c.args.s.now (omega (arith, c.if-s-used.false))) }

pub invariant_of-key : goal.invariant_of-key
invariant_of-key c =
    let d = lawful-settings _ _ _ _ _ c.settings_fit.ensures c.if-not-settings_fit.false c.salt_length-n.ensures in
    record { key_for = d.good _ c.cipher_of.ensures }

pub read_front-requires-clause-pool_len : goal.read_front-requires-clause-pool_len
read_front-requires-clause-pool_len c =
    (lawful-settings _ _ _ _ _ c.settings_fit.ensures c.if-not-settings_fit.false c.salt_length-n.ensures).words

pub returns-in_err-fixed : goal.returns-in_err-fixed
returns-in_err-fixed c =
    let a = c.args in
    let passed_on : c.from_residual.result ≡ Err c.in_err-fixed.field-0.0 = search rules in
    let all = request-done a.method a.key.now a.clock a.s.now a.pool.now _ c.settings_fit.ensures c.if-not-settings_fit.false _
    c.salt_length-n.ensures c.if-s-used.false _ c.derive-subkey.ensures _ c.cipher_of.ensures _ _ c.read_front.ensures.value c.read_front.ensures.pool_after _
    (passed_on ∙ ap (opened_as a.method c.derive-subkey.result (c.salt_length-n.result + 27)) (sym c.in_err-fixed.was)) in record { value = all.0; pool_after = all.1 }

pub returns : goal.returns
returns c =
    let a = c.args in
    let all = request-done a.method a.key.now a.clock a.s.now a.pool.now _ c.settings_fit.ensures c.if-not-settings_fit.false _
    c.salt_length-n.ensures c.if-s-used.false _ c.derive-subkey.ensures _ c.cipher_of.ensures _ _ c.read_front.ensures.value c.read_front.ensures.pool_after _
    (ap (opened_as a.method c.derive-subkey.result (c.salt_length-n.result + 27)) (sym c.in_ok-fixed.was)) in record { value = all.0; pool_after = all.1 }
