use Rattle.blake3_compression.specs.Columns.{words}
use Rattle.blake3_lanes.specs.Lanes.{folded, folded_column}
use Rattle.blake3_lanes.proofs.states.fold.Goals as goal

pub returns : goal.returns
unfolding words folded folded_column
returns c =
    λ i.
    words
    (record {
      p = c.fold_column.ensures i;
      q = c.fold_column-2.ensures i;
      r = c.fold_column-3.ensures i;
      s = c.fold_column-4.ensures i;
    })
