use mathlib.Core.Path.{◌∙◌, ap}
use Rattle.aes.specs.Words.{bytes}
use Rattle.aes.proofs.WordLaws.{bytes-rotate1}
use Rattle.aes.proofs.word.rotate1.Goals as goal

pub returns : goal.returns
returns c = ap bytes c.rotate_left.ensures ∙ bytes-rotate1 c.args.w c.ranges.w.fits
