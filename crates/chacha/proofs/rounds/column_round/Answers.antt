use Rattle.chacha.specs.ChaCha.{words_at, set_at, quarter_at, columns}
use Rattle.chacha.specs.Lanes.{words}
use Rattle.chacha.proofs.rounds.column_round.Goals as goal

pub returns : goal.returns
unfolding words columns quarter_at set_at words_at
returns c =
    λ i.
    words
    (record {
      p = c.quarter_round-p.ensures i;
      q = c.quarter_round-q.ensures i;
      r = c.quarter_round-r.ensures i;
      s = c.quarter_round-s.ensures i;
    })
