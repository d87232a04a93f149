-- Each return is one case of what the salt meets.
use Rattle.std.proofs.Common.{◌∙◌}
use Rattle.salt_pool.proofs.PoolLaws.{met-replay, met-room}
use Rattle.salt_pool.proofs.look_up.Goals as goal

pub returns-then-is_some : goal.returns-then-is_some
returns-then-is_some c =
    let a = c.args in
    met-replay a.pool.now a.clock a.salt.now _ c.salt_words.ensures c.find.result c.find.ensures c.if-is_some.ensures

pub returns : goal.returns
returns c =
    let a = c.args in
    c.ok_or.ensures.value
    ∙ met-room a.pool.now a.clock a.salt.now _ c.salt_words.ensures c.find.result c.find.ensures c.if-is_some.ensures c.find_room.result c.find_room.ensures
