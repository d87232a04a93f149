use Rattle.aes_sliced.proofs.BlockLaws.{cipher-law}
use Rattle.aes_sliced.proofs.cipher.Goals as goal

pub returns : goal.returns
returns c = record {
  s_len_2 = c.turn-2.ensures.s_len;
  by_index = λ w i p h.
      cipher-law c.args.s.now c.args.k.now c.args.n c.turn.new.s c.first_key.new.s c.rounds.new.s c.turn-2.new.s w i
      c.requires.s_len c.turn.ensures.s_len c.rounds.ensures.s_len_2 c.requires.n_nonzero p h
      c.turn.ensures.s_after c.first_key.ensures.s_after (c.rounds.ensures.by_index w i p h) c.turn-2.ensures.s_after;
}
