use Rattle.chacha.specs.Lanes.{words, lane, column}
use Rattle.chacha.proofs.lanes.load.Goals as goal

pub returns : goal.returns
unfolding words lane column
returns c =
    λ i.
    words
    (record {
      p = c.load_column.ensures i;
      q = c.load_column-2.ensures i;
      r = c.load_column-3.ensures i;
      s = c.load_column-4.ensures i;
    })
