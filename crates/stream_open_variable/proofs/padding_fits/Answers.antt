-- Each return is one case of the tests.
use mathlib.Core.Path.{◌∙◌}
use native.Mathlib.Omega.{arith}
use borrow.Author.Tests.{lt-leb}
use Rattle.stream_open_variable.proofs.VariableLaws.{padding-short, padding-over, padding-law}
use Rattle.stream_open_variable.proofs.padding_fits.Goals as goal

pub returns-then-left-le2 : goal.returns-then-left-le2
returns-then-left-le2 c = padding-short c.args.end c.args.plain.now (omega (arith, c.if-left-le2.true, c.saturating_sub-left.ensures))

pub returns-then-padding-le-MAX_PADDING : goal.returns-then-padding-le-MAX_PADDING
returns-then-padding-le-MAX_PADDING c =
    padding-law _ _ _ c.saturating_sub-left.ensures _ c.read_u16_be-padding.ensures c.if-left-le2.false c.if-padding-le-MAX_PADDING.true

pub returns-else-padding-le-MAX_PADDING : goal.returns-else-padding-le-MAX_PADDING
returns-else-padding-le-MAX_PADDING c =
    lt-leb _ _ c.if-padding-le-MAX_PADDING.false ∙ padding-over _ _ _ c.read_u16_be-padding.ensures c.if-padding-le-MAX_PADDING.false
