use mathlib.Core.Path.{refl, ◌∙◌}
use Rattle.stream_open_request.proofs.RequestLaws.{settings-law}
use Rattle.stream_open_request.proofs.settings_fit.Goals as goal

pub returns-then-key_fits : goal.returns-then-key_fits
returns-then-key_fits c =
    settings-law _ _ _ _ _ _ c.key_fits.ensures c.if-key_fits.true c.is_lawful.ensures

pub returns-else-key_fits : goal.returns-else-key_fits
returns-else-key_fits c = c.if-key_fits.false ∙ settings-law _ _ _ _ _ _ c.key_fits.ensures c.if-key_fits.false refl
