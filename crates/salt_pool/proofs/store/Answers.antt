-- The words of the record, written where it starts.
use Rattle.salt_pool.proofs.PoolLaws.{is-stored}
use Rattle.salt_pool.proofs.store.Goals as goal

pub returns : goal.returns
returns c =
    let a = c.args in
    is-stored a.pool.now a.r a.clock a.salt.now c.salt_words-w.result _ c.salt_words-w.ensures c.write.ensures
