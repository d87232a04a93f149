-- The numbers given back: one for each refusal, what numbers 10 and 15 add, and which of them end a stream.
use Rattle.std.specs.Prelude.{Bool, true, false, ℕ}
use Rattle.protocol.specs.declared.Refusal.{Refusal}
use Rattle.protocol.specs.declared.Refusal.TheVariants.{Settings, Length, Room, NotAuthentic, Malformed, WrongType, WrongTime, Replay, Full, More, Counter, Argument, Binding, Empty, UnknownSetting}

abbrev pub refusal_number : Refusal → ℕ
refusal_number Settings = 1
refusal_number Length = 2
refusal_number Room = 3
refusal_number NotAuthentic = 4
refusal_number Malformed = 5
refusal_number WrongType = 6
refusal_number WrongTime = 7
refusal_number Replay = 8
refusal_number Full = 9
refusal_number (More wanted) = 10
refusal_number Counter = 11
refusal_number Argument = 12
refusal_number Binding = 13
refusal_number Empty = 14
refusal_number (UnknownSetting setting) = 15

-- the number of bytes wanted in all, the unknown setting's number, and 0 for the others
abbrev pub added : Refusal → ℕ
added (More wanted) = wanted
added (UnknownSetting setting) = setting
added Settings = 0
added Length = 0
added Room = 0
added NotAuthentic = 0
added Malformed = 0
added WrongType = 0
added WrongTime = 0
added Replay = 0
added Full = 0
added Counter = 0
added Argument = 0
added Binding = 0
added Empty = 0

-- the only place that says so: a wrong tag, a malformed header and an empty chunk end the stream that is opened; it answers
-- number 4 from then on
abbrev pub ends_stream : Refusal → Bool
ends_stream NotAuthentic = true
ends_stream Malformed = true
ends_stream Empty = true
ends_stream Settings = false
ends_stream Length = false
ends_stream Room = false
ends_stream WrongType = false
ends_stream WrongTime = false
ends_stream Replay = false
ends_stream Full = false
ends_stream (More wanted) = false
ends_stream Counter = false
ends_stream Argument = false
ends_stream Binding = false
ends_stream (UnknownSetting setting) = false
