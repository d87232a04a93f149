use native.Mathlib.Omega.{arith}
use Rattle.poly1305.proofs.WordLaws.{from-words}
use Rattle.poly1305.proofs.limbs.from_words.Goals as goal

pub overflow_add-result : goal.overflow_add-result
overflow_add-result c = omega (arith, c.ranges.low.fits)

pub returns : goal.returns
returns c =
    let a = c.args in record {
      below = record {
        b0 = omega arith;
        b1 = omega arith;
        b2 = omega (arith, c.ranges.low.fits);
        b3 = omega arith;
        b4 = omega (arith, c.ranges.high.fits, c.requires);
      };
      result_value = from-words a.low a.high a.top;
    }
