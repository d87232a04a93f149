-- What stands after a stream of SIP004 was begun in words that a host lends: the call's number, and the words. Words of another number
-- than a stream's are refusal 1.
use Rattle.std.specs.Prelude.{cond, List, ℕ, eqb, length, Err, Ok, Result}
use Rattle.protocol.specs.Refusal.{refusal_number}
use Rattle.words.specs.States.{stream_size, sender_words, receiver_words}
use Rattle.stream_seal.specs.declared.Sender.{Sender}
use Rattle.protocol.specs.declared.Refusal.{Refusal}
use Rattle.stream_open.specs.declared.Receiver.{Receiver}

pub record AfterBegin : Type 0 where
  pub number : ℕ
  pub stream : List ℕ

-- x is what stands where the words are a stream's
unfoldable pub begins : AfterBegin → List ℕ → AfterBegin
begins x stream = cond (eqb (length stream) stream_size) x (record { number = 1; stream = stream })

-- of the words of what was begun
abbrev pub words_told : Result (List ℕ) Refusal → List ℕ → AfterBegin
words_told (Ok words) stream = record { number = 0; stream = words }
words_told (Err r) stream = record { number = refusal_number r; stream = stream }

abbrev pub sender_told : Result Sender Refusal → List ℕ → AfterBegin
sender_told (Ok s) stream = record { number = 0; stream = sender_words s }
sender_told (Err r) stream = record { number = refusal_number r; stream = stream }

abbrev pub receiver_told : Result Receiver Refusal → List ℕ → AfterBegin
receiver_told (Ok s) stream = record { number = 0; stream = receiver_words s }
receiver_told (Err r) stream = record { number = refusal_number r; stream = stream }
