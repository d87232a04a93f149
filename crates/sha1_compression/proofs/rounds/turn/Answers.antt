use Rattle.sha1_compression.specs.Functions.{ROTL}
use Rattle.sha1_compression.proofs.RoundLaws.{turned}
use Rattle.sha1_compression.proofs.rounds.turn.Goals as goal

pub returns : goal.returns
unfolding ROTL
returns c =
    let a = c.args in
    turned a.s a.x a.k a.w c.rotate_left.ensures c.rotate_left-2.ensures
