use mathlib.Core.Path.{sym, ◌∙◌}
use Rattle.stream_seal_heads.proofs.HeadAnswerLaws.{key-unfit, salt-decides}
use Rattle.stream_seal_heads.proofs.sizes_fit.Goals as goal

pub returns-then-key_fits : goal.returns-then-key_fits
returns-then-key_fits c =
    salt-decides _ _ _ (sym c.key_fits.ensures ∙ c.if-key_fits.true) _ c.salt_length.ensures

pub returns-else-key_fits : goal.returns-else-key_fits
returns-else-key_fits c = c.if-key_fits.false ∙ key-unfit _ _ _ (sym c.key_fits.ensures ∙ c.if-key_fits.false)
