use Rattle.blake3_compression.proofs.CompressionLaws.{round-before, last-round}
use Rattle.blake3_compression.proofs.seven_rounds.Goals as goal

pub returns : goal.returns
returns c =
    round-before 6 _ _ _ _ _ c.round-v.ensures c.permute-m.ensures
    (round-before 5 _ _ _ _ _ c.round-v-2.ensures c.permute-m-2.ensures
    (round-before 4 _ _ _ _ _ c.round-v-3.ensures c.permute-m-3.ensures
    (round-before 3 _ _ _ _ _ c.round-v-4.ensures c.permute-m-4.ensures
    (round-before 2 _ _ _ _ _ c.round-v-5.ensures c.permute-m-5.ensures
    (round-before 1 _ _ _ _ _ c.round-v-6.ensures c.permute-m-6.ensures
    (last-round _ _ _ c.round.ensures))))))
