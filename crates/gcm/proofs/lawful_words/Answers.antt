use Rattle.std.proofs.lemmas.Option.{IfSome_then}
use Rattle.gcm.specs.Keyed.{Fits}
use Rattle.gcm.proofs.KeyedLaws.{no-nonce, too_long, no_room, all-fits, none-fits}
use Rattle.gcm.proofs.lawful_words.Goals as goal

pub returns-then-n-ne12-clause-none : goal.returns-then-n-ne12-clause-none
returns-then-n-ne12-clause-none c = no-nonce _ _ _ _ _ c.if-n-ne12.true

pub returns-then-len-gt68719476704-clause-none : goal.returns-then-len-gt68719476704-clause-none
returns-then-len-gt68719476704-clause-none c = too_long _ _ _ _ _ c.if-len-gt68719476704.true

pub returns-then-due-room-clause-none : goal.returns-then-due-room-clause-none
returns-then-due-room-clause-none c = no_room _ _ _ _ _ c.if-due-room.true

pub returns-clause-some : goal.returns-clause-some
returns-clause-some c =
    let a = c.args in
    IfSome_then _ {Q = Fits a.k a.n a.len a.due a.room} c.key_words.ensures.some (λ nk p. all-fits _ _ _ _ _ nk p c.if-n-ne12.false c.if-len-gt68719476704.false c.if-due-room.false)

pub returns-clause-none : goal.returns-clause-none
returns-clause-none c = none-fits _ _ _ _ _ c.key_words.result c.key_words.ensures.none
