use Rattle.std.proofs.Common.{sym, ◌∙◌}
use Rattle.salt_pool.proofs.PoolLaws.{is_made}
use Rattle.salt_pool.proofs.make.Goals as goal

pub returns-in-Some-clause-pool_after : goal.returns-in-Some-clause-pool_after
returns-in-Some-clause-pool_after c =
    is_made c.args.pool.now c.args.method _ _ c.if-pool-ne-POOL.false (sym c.numbered.ensures ∙ c.in-Some.is) c.clear.ensures
