-- What is told of an answer about a stream: its number, the words of the stream as it is then, and the words of the answer.
use Rattle.std.specs.Prelude.{cond, List, ℕ, set, Err, Ok, Result}
use Rattle.std.proofs.lemmas.List.Edits.{sets}
use Rattle.protocol.specs.declared.Refusal.{Refusal}
use Rattle.protocol.specs.Refusal.{refusal_number, ends_stream}
use Rattle.stream_open.specs.declared.Receiver.{Receiver}
use Rattle.words.specs.Answers.{variable_words, head_words, chunk_words, refused_answer}
use Rattle.words.specs.States.{sender_words, receiver_words}
use Rattle.stream_seal.specs.declared.Sender.{Sender}
use Rattle.stream_open_request.specs.declared.Request.{Request}
use Rattle.stream_open_variable.specs.declared.VariableHeader.{VariableHeader}
use Rattle.stream_open_response.specs.declared.Response.{Response}
use Rattle.stream_open.specs.declared.Chunk.{Chunk}

-- ---- what was sealed

abbrev pub sealed_number : Result (ℕ × Sender) Refusal → ℕ
sealed_number (Ok (n, s)) = 0
sealed_number (Err r) = refusal_number r

-- how many bytes were sealed
abbrev pub sealed_words : Result (ℕ × Sender) Refusal → List ℕ → List ℕ
sealed_words (Ok (n, s)) answer = set answer 0 n
sealed_words (Err r) answer = answer

abbrev pub sealed_stream : Result (ℕ × Sender) Refusal → List ℕ → List ℕ
sealed_stream (Ok (n, s)) w = sender_words s
sealed_stream (Err r) w = w

-- ---- the front of a request's head

abbrev pub request_number : Result (Request × Receiver) Refusal → ℕ
request_number (Ok (h, s)) = 0
request_number (Err r) = refusal_number r

-- the words behind these stay
abbrev pub request_answer : Result (Request × Receiver) Refusal → List ℕ → List ℕ
request_answer (Ok (h, s)) answer = sets answer 0 (head_words h.used h.length h.time)
request_answer (Err r) answer = refused_answer r answer

abbrev pub request_stream : Result (Request × Receiver) Refusal → List ℕ → List ℕ
request_stream (Ok (h, s)) w = receiver_words s
request_stream (Err r) w = w

-- ---- its variable header

-- a refusal that ends the stream writes its turn, and no other writes a word
abbrev pub refused_stream : Refusal → List ℕ → List ℕ
refused_stream r w = cond (ends_stream r) (set w 0 0) w

abbrev pub variable_number : Result VariableHeader Refusal → ℕ
variable_number (Ok h) = 0
variable_number (Err r) = refusal_number r

abbrev pub variable_told : Result VariableHeader Refusal → List ℕ → List ℕ
variable_told (Ok h) answer = sets answer 0 (variable_words h)
variable_told (Err r) answer = refused_answer r answer

abbrev pub variable_stream : Result VariableHeader Refusal → Receiver → List ℕ → List ℕ
variable_stream (Ok h) next w = receiver_words next
variable_stream (Err r) next w = refused_stream r w

-- ---- the head of a response

abbrev pub response_number : Result (Response × Receiver) Refusal → ℕ
response_number (Ok (h, s)) = 0
response_number (Err r) = refusal_number r

abbrev pub response_answer : Result (Response × Receiver) Refusal → List ℕ → List ℕ
response_answer (Ok (h, s)) answer = sets answer 0 (head_words h.used h.length h.time)
response_answer (Err r) answer = refused_answer r answer

abbrev pub response_stream : Result (Response × Receiver) Refusal → List ℕ → List ℕ
response_stream (Ok (h, s)) w = receiver_words s
response_stream (Err r) w = w

-- ---- a step

abbrev pub stepped_number : Result Chunk Refusal → ℕ
stepped_number (Ok c) = 0
stepped_number (Err r) = refusal_number r

abbrev pub stepped_answer : Result Chunk Refusal → List ℕ → List ℕ
stepped_answer (Ok c) answer = sets answer 0 (chunk_words c)
stepped_answer (Err r) answer = refused_answer r answer

abbrev pub step_stream : Result Chunk Refusal → Receiver → List ℕ → List ℕ
step_stream (Ok c) next w = receiver_words next
step_stream (Err r) next w = refused_stream r w
