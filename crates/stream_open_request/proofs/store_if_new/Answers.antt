-- Each return is one case of what the salt meets.
use Rattle.std.specs.Prelude.{Err}
use mathlib.Core.Path.{ap, ◌∙◌}
use mathlib.Core.Path.{sym}
use Rattle.salt_pool.proofs.MeetLaws.{room-below}
use Rattle.stream_open_request.proofs.RequestLaws.{met-room, met-replay, met-full}
use Rattle.stream_open_request.proofs.store_if_new.Goals as goal

pub store-requires : goal.store-requires
store-requires c =
    (c.requires, room-below _ _ _ _ (sym c.look_up.ensures ∙ c.in-Ok.is))

pub returns-in-Ok : goal.returns-in-Ok
returns-in-Ok c =
    let a = c.args in let all = met-room a.pool.now a.clock a.salt.now a.fixed _ c.look_up.ensures _ c.in-Ok.is _ c.store.ensures in record { value = all.0; pool_after = all.1 }

pub returns-in-Err-Replay : goal.returns-in-Err-Replay
returns-in-Err-Replay c =
    let a = c.args in let all = met-replay a.pool.now a.clock a.salt.now a.fixed _ c.look_up.ensures (c.in-Err-Replay.is ∙ ap Err c.in-Err-Replay.field-0-is) in record { value = all.0; pool_after = all.1 }

pub returns-in-Err-Full : goal.returns-in-Err-Full
returns-in-Err-Full c =
    let a = c.args in let all = met-full a.pool.now a.clock a.salt.now a.fixed _ c.look_up.ensures (c.in-Err-Full.is ∙ ap Err c.in-Err-Full.field-0-is) in record { value = all.0; pool_after = all.1 }
