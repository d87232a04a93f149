use Rattle.blake3_lanes.proofs.BlockLaws.{block-of-each}
use Rattle.blake3_lanes.proofs.compress_blocks.Goals as goal

pub returns : goal.returns
returns c =
    let a = c.args in
    block-of-each a.s.now a.at a.t a.d a.x.now _ _ _ _ c.load_messages.ensures c.start_states.ensures
    c.seven_rounds.ensures c.fold_states.ensures
