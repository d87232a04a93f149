use Rattle.blake3_lanes.specs.Lanes.{columns_at}
use Rattle.blake3_lanes.proofs.load.Goals as goal

pub returns : goal.returns
unfolding columns_at
returns c =
    λ i.
    record {
      p = c.load_column.ensures i;
      q = c.load_column-2.ensures i;
      r = c.load_column-3.ensures i;
      s = c.load_column-4.ensures i;
    }
