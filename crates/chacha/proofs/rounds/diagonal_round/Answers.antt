use Rattle.std.proofs.Common.{ap, ◌∙◌}
use Rattle.chacha.specs.ChaCha.{quarter, words_at, set_at, quarter_at, diagonals}
use Rattle.chacha.specs.Lanes.{words, diagonal}
use Rattle.chacha.proofs.rounds.diagonal_round.Goals as goal

pub returns : goal.returns
unfolding words diagonals quarter_at set_at words_at
returns c =
    let p = c.quarter_round-p.ensures ∙ ap quarter c.diagonal.ensures in
    let q = c.quarter_round-q.ensures ∙ ap quarter c.diagonal-2.ensures in
    let r = c.quarter_round-r.ensures ∙ ap quarter c.diagonal-3.ensures in
    let s = c.quarter_round-s.ensures ∙ ap quarter c.diagonal-4.ensures in
    (λ i.
    words
    (record { p = c.diagonal-5.ensures i; q = c.diagonal-6.ensures i; r = c.diagonal-7.ensures i; s = c.diagonal-8.ensures i }))
    ∙ (λ i.
    words
    (record {
      p = diagonal (p i) (s i) (r i) (q i);
      q = diagonal (q i) (p i) (s i) (r i);
      r = diagonal (r i) (q i) (p i) (s i);
      s = diagonal (s i) (r i) (q i) (p i);
    }))
