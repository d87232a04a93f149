use mathlib.Core.Path.{◌∙◌, ap}
use Rattle.aes.specs.Words.{bytes}
use Rattle.aes.proofs.WordLaws.{bytes-rotate3}
use Rattle.aes.proofs.word.rotate3.Goals as goal

pub returns : goal.returns
returns c = ap bytes c.rotate_left.ensures ∙ bytes-rotate3 c.args.w c.ranges.w.fits
