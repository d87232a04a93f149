-- The words of an answer: what each function writes for a C program to read.
use Rattle.std.specs.Prelude.{Bool, cond, ◌||◌, List, [], ◌∷◌, ℕ, eqb, set}
use Rattle.protocol.specs.declared.Refusal.{Refusal}
use Rattle.protocol.specs.Refusal.{refusal_number, added}
use Rattle.socks5.specs.declared.Target.{Target}
use Rattle.socks5.specs.declared.Target.TheVariants.{V4, V6, Name}
use Rattle.datagram_read.specs.declared.Header.{Header}
use Rattle.stream_open_variable.specs.declared.VariableHeader.{VariableHeader}
use Rattle.stream_open.specs.declared.Chunk.{Chunk}

-- a lent answer has so many words
abbrev pub answer_words : ℕ
answer_words = 9

-- ---- a target: its kind byte, and an IPv4 number, the two numbers of IPv6, or a name's place and length

abbrev pub kind_of : Target → ℕ
kind_of (V4 a) = 1
kind_of (Name place n) = 3
kind_of (V6 a b) = 4

abbrev pub first_of : Target → ℕ
first_of (V4 a) = a
first_of (Name place n) = place
first_of (V6 a b) = a

abbrev pub second_of : Target → ℕ
second_of (V4 a) = 0
second_of (Name place n) = n
second_of (V6 a b) = b

-- ---- what was opened

abbrev pub header_words : Header → List ℕ
header_words h =
    kind_of h.target ∷ first_of h.target ∷ second_of h.target ∷ h.port
    ∷ h.session ∷ h.packet ∷ h.time ∷ h.padding ∷ h.payload ∷ []

abbrev pub variable_words : VariableHeader → List ℕ
variable_words h =
    kind_of h.target ∷ first_of h.target ∷ second_of h.target ∷ h.port
    ∷ h.padding ∷ h.payload ∷ h.used ∷ h.length ∷ []

-- the front of a head
abbrev pub head_words : (used length time : ℕ) → List ℕ
head_words used length time = used ∷ length ∷ time ∷ []

abbrev pub chunk_words : Chunk → List ℕ
chunk_words c = c.used ∷ c.length ∷ []

-- ---- a refusal: number 10 adds how many bytes are wanted in all, 15 the setting's number, and the others leave the answer as it was

abbrev pub adds : ℕ → Bool
adds n = eqb n 10 || eqb n 15

unfoldable pub refused_answer : Refusal → List ℕ → List ℕ
refused_answer r answer = cond (adds (refusal_number r)) (set answer 0 (added r)) answer
