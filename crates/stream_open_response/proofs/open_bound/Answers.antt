use Rattle.std.specs.Prelude.{◌≡◌, Err}
use mathlib.Core.Path.{◌∙◌}
use native.Mathlib.Omega.{arith}
use borrow.Author.Rules.{rules}
use Rattle.stream_pieces.proofs.PieceLaws.{key-most}
use Rattle.stream_open_response.proofs.ResponseLaws.{bound-refused, bound-empty, bound-ours, bound-others}
use Rattle.stream_open_response.proofs.open_bound.Goals as goal

pub open_fixed-requires : goal.open_fixed-requires
open_fixed-requires c = record { in_bounds = omega (arith, c.requires.plain_len); plain_len_bound = omega (arith, c.requires.plain_len, key-most c.args.key); s_len = omega (arith, c.requires.plain_len, c.requires.s_len) }

pub returns-in_err-fixed : goal.returns-in_err-fixed
returns-in_err-fixed c =
    let passed_on : c.from_residual.result ≡ Err c.in_err-fixed.field-0.0 = search rules in
    passed_on ∙ bound-refused _ _ _ _ _ _ _ _ c.open_fixed.ensures.value _ c.in_err-fixed.was

pub returns-then-not-equal : goal.returns-then-not-equal
returns-then-not-equal c =
    bound-others _ _ _ _ _ _ _ _ c.open_fixed.ensures.value _ _ c.open_fixed.ensures.plain_after _ c.in_ok-fixed.was _ c.equal.ensures c.if-not-equal.true

pub returns-then-fixed-eq0 : goal.returns-then-fixed-eq0
returns-then-fixed-eq0 c =
    bound-empty _ _ _ _ _ _ _ _ c.open_fixed.ensures.value _ _ c.open_fixed.ensures.plain_after _ c.in_ok-fixed.was _ c.equal.ensures
    c.if-not-equal.false c.if-fixed-eq0.true

pub returns : goal.returns
returns c =
    bound-ours _ _ _ _ _ _ _ _ c.open_fixed.ensures.value _ _ c.open_fixed.ensures.plain_after _ c.in_ok-fixed.was _ c.equal.ensures
    c.if-not-equal.false c.if-fixed-eq0.false
