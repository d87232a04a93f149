use Rattle.std.proofs.Common.{◌/◌, replicate, sym, ◌∙◌}
use Rattle.std.proofs.Math.ListN.{length-replicate}
use Rattle.chacha.proofs.StreamLaws.{filled}
use Rattle.chacha.proofs.first_blocks.Goals as goal

pub returns : goal.returns
returns g c =
    let a = c.args in
    filled a.n a.key.now a.counter a.nonce.now a.counter (g.row.LENGTH / 64) (replicate g.row.LENGTH 0) _ _ (length-replicate g.row.LENGTH 0 ∙ sym c.requires.whole) c.counted.ensures c.batch.ensures
