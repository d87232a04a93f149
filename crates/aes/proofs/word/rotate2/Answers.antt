use mathlib.Core.Path.{◌∙◌, ap}
use Rattle.aes.specs.Words.{bytes}
use Rattle.aes.proofs.WordLaws.{bytes-rotate2}
use Rattle.aes.proofs.word.rotate2.Goals as goal

pub returns : goal.returns
returns c = ap bytes c.rotate_left.ensures ∙ bytes-rotate2 c.args.w c.ranges.w.fits
