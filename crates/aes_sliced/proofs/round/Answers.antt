use Rattle.std.proofs.Common.{◌<◌, ◌≤◌, arith}
use Rattle.aes_sliced.proofs.RoundsLaws.{mixing, last}
use Rattle.aes_sliced.proofs.round.Goals as goal

pub returns-then-r-n : goal.returns-then-r-n
returns-then-r-n c =
    let h : c.args.r < c.args.n = omega arith in record { s_len_2 = c.mix_columns.ensures.s_len_2; t_len_2 = c.sub_bytes.ensures.t_len; by_index = λ i hi. mixing _ _ _ _ _ c.requires.s_len c.requires.t_len i hi h c.sub_bytes.ensures.t_after c.mix_columns.ensures.s_after }

pub returns-else-r-n : goal.returns-else-r-n
returns-else-r-n c =
    let h : c.args.n ≤ c.args.r = omega arith in record { s_len_2 = c.last_round.ensures.s_len_2; t_len_2 = c.sub_bytes.ensures.t_len; by_index = λ i hi. last _ _ _ _ _ c.requires.s_len c.requires.t_len i hi h c.sub_bytes.ensures.t_after c.last_round.ensures.s_after }
