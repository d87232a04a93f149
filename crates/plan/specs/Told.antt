-- What a host is told of an answer: the number that is returned, and the words of a lent answer.
use Rattle.std.specs.Prelude.{Bool, List, ℕ, set, Err, Ok, Result, false, true}
use Rattle.protocol.specs.Refusal.{refusal_number}
use Rattle.protocol.specs.declared.Refusal.{Refusal}

-- ---- planning: the number of datagrams

abbrev pub made_number : Result ℕ Refusal → ℕ
made_number (Ok k) = 0
made_number (Err r) = refusal_number r

abbrev pub made_words : Result ℕ Refusal → List ℕ → List ℕ
made_words (Ok k) answer = set answer 0 k
made_words (Err r) answer = answer

-- ---- checking: 1 for a good plan, and else 0

abbrev pub checked_number : Result Bool Refusal → ℕ
checked_number (Ok true) = 0
checked_number (Ok false) = 0
checked_number (Err r) = refusal_number r

abbrev pub checked_words : Result Bool Refusal → List ℕ → List ℕ
checked_words (Ok true) answer = set answer 0 1
checked_words (Ok false) answer = set answer 0 0
checked_words (Err r) answer = answer
