-- Demand 3, all its parts, for whatever the arguments of a call decide. Assumes nothing.
use Rattle.std.specs.Prelude.{Option}
use Prim.Native.Nat.{ℕ}
use Rattle.session_book.specs.Call.{Call, Decision}
use Rattle.session_book.specs.Demand3.{Named, FollowsBook, Rearrangement}
use Rattle.session_book.specs.Counts.{NoEarlyEight, CallsCounted}
use Rattle.session_book.proofs.First.{follows-book}
use Rattle.session_book.proofs.Second.{rearrangement}
use Rattle.session_book.proofs.Counts.{calls-counted}

pub demand3 : {H : Type 0} (decide : Call → Decision H) (belongs : Call → Option ℕ)
    → FollowsBook decide
    × ((Named decide belongs → Rearrangement decide belongs) × (Named decide belongs → NoEarlyEight decide → CallsCounted decide belongs))
demand3 decide belongs =
    (follows-book decide, (λ named. rearrangement decide belongs named (follows-book decide), calls-counted decide belongs))
