use mathlib.Core.Path.{refl}
use lib.ListN.{length}
use Rattle.hkdf.proofs.ExpandLaws.{refused-info, refused-length, taken-both}
use Rattle.hkdf.proofs.expand.Goals as goal

pub returns-then-info-gt235 : goal.returns-then-info-gt235
returns-then-info-gt235 c =
    let a = c.args in record { value = refused-info a.info.now (length a.out.now) c.if-info-gt235.true; out_after = refl }

pub returns-then-out-gt5100 : goal.returns-then-out-gt5100
returns-then-out-gt5100 c =
    let a = c.args in record { value = refused-length a.info.now (length a.out.now) c.if-out-gt5100.true; out_after = refl }

pub returns : goal.returns
returns c =
    let a = c.args in record { value = taken-both a.info.now (length a.out.now) c.if-info-gt235.false c.if-out-gt5100.false; out_after = c.fill.ensures a.prk.now c.key.ensures }
