-- Each return is one case of an address and its padding.
use mathlib.Core.Path.{sym}
use native.Mathlib.Omega.{arith}
use Rattle.stream_open_variable.proofs.VariableLaws.{padding-within, read_none, read-bad, read-good}
use Rattle.stream_open_variable.proofs.read_variable.Goals as goal

pub returns-in_default : goal.returns-in_default
returns-in_default c = read_none _ _ _ c.parse.ensures c.in_default.is

pub returns-then-not-padding_fits : goal.returns-then-not-padding_fits
returns-then-not-padding_fits c =
    read-bad _ _ _ c.parse.ensures _ c.in-Some.is _ c.padding_fits.ensures c.if-not-padding_fits.true

pub overflow_add-result : goal.overflow_add-result
overflow_add-result c =
    let within = padding-within _ _ (sym c.if-not-padding_fits.ensures) in
    record { fits = omega (arith, within, c.well_formed) }

pub overflow_add-result-2 : goal.overflow_add-result-2
overflow_add-result-2 c =
    let within = padding-within _ _ (sym c.if-not-padding_fits.ensures) in
    record { fits = omega (arith, within, c.read_u16_be-padding.ensures, c.well_formed) }

pub returns : goal.returns
returns c =
    read-good c.args.n _ _ c.parse.ensures _ c.in-Some.is _ c.padding_fits.ensures c.if-not-padding_fits.false _
    c.read_u16_be-padding.ensures
