-- ChaCha (RFC 8439, sections 2.1 to 2.4) over the number of its double rounds, and HChaCha (draft-irtf-cfrg-xchacha, section 2.2).
-- A state is a list of sixteen words.
use Rattle.std.specs.Prelude.{ℕ, zero, suc, ◌+◌, ◌/◌, ◌%◌, ◌^◌, List, [], ◌∷◌, ◌++◌, map, length, slice_index, slice_set}
use Rattle.octets.specs.Buffers.{◌⊞◌}
use Rattle.chacha.specs.declared.rounds.Quad.{Quad}
use Rattle.chacha.specs.Words.{to_fifteen, add32, rotl, xor, word, bytes}

-- ---- 2.1, 2.2: the quarter round

-- half of it: a := a + b, d := (d ⊕ a) <<< r, c := c + d, b := (b ⊕ c) <<< s
unfoldable pub half : Quad → ℕ → ℕ → Quad
half q r s =
    let a = add32 q.a q.b in
    let d = rotl (xor q.d a) r in
    let c = add32 q.c d in
    record { a = a; b = rotl (xor q.b c) s; c = c; d = d }

unfoldable pub quarter : Quad → Quad
quarter q = half (half q 16 12) 8 7

-- the words of a state at four places
unfoldable pub words_at : List ℕ → ℕ → ℕ → ℕ → ℕ → Quad
words_at v a b c d = record { a = slice_index v a; b = slice_index v b; c = slice_index v c; d = slice_index v d }

-- the state with four words replaced
unfoldable pub set_at : List ℕ → ℕ → ℕ → ℕ → ℕ → Quad → List ℕ
set_at v a b c d q = slice_set (slice_set (slice_set (slice_set v a q.a) b q.b) c q.c) d q.d

-- QUARTERROUND(a, b, c, d)
unfoldable pub quarter_at : List ℕ → ℕ → ℕ → ℕ → ℕ → List ℕ
quarter_at v a b c d = set_at v a b c d (quarter (words_at v a b c d))

-- ---- 2.3: the block function

unfoldable pub columns : List ℕ → List ℕ
columns v = quarter_at (quarter_at (quarter_at (quarter_at v 0 4 8 12) 1 5 9 13) 2 6 10 14) 3 7 11 15

unfoldable pub diagonals : List ℕ → List ℕ
diagonals v = quarter_at (quarter_at (quarter_at (quarter_at v 0 5 10 15) 1 6 11 12) 2 7 8 13) 3 4 9 14

unfoldable pub double_round : List ℕ → List ℕ
double_round v = diagonals (columns v)

-- n double rounds: ChaCha20 has 10, ChaCha12 has 6, ChaCha8 has 4
unfoldable pub doubles : ℕ → List ℕ → List ℕ
doubles zero v = v
doubles (suc n) v = doubles n (double_round v)

-- "expand 32-byte k"
abbrev pub constants : List ℕ
constants = 0x61707865 ∷ 0x3320646e ∷ 0x79622d32 ∷ 0x6b206574 ∷ []

-- the state before the first round: the constants, eight words of the key, and four words more
unfoldable pub initial : List ℕ → List ℕ → List ℕ
initial key t = constants ++ map (word key) (0 ∷ 1 ∷ 2 ∷ 3 ∷ 4 ∷ 5 ∷ 6 ∷ 7 ∷ []) ++ t

-- the four are the counter and the nonce's three words
unfoldable pub counted : List ℕ → ℕ → List ℕ → List ℕ
counted key counter nonce = initial key (counter % 2 ^ 32 ∷ word nonce 0 ∷ word nonce 1 ∷ word nonce 2 ∷ [])

-- the sum of two states, word by word
unfoldable pub summed : List ℕ → List ℕ → List ℕ
summed v w = map (λ (i : ℕ). add32 (slice_index v i) (slice_index w i)) to_fifteen

-- the block that a state gives: the sum of what it is before the rounds and after them, in 64 bytes
unfoldable pub block_of : ℕ → List ℕ → List ℕ
block_of n s = bytes (summed (doubles n s) s)

-- the block of key stream with a number, modulo 2^32
unfoldable pub key_block : ℕ → List ℕ → ℕ → List ℕ → List ℕ
key_block n key counter nonce = block_of n (counted key counter nonce)

-- ---- 2.4: encryption

-- f c, f (c + 1) and so on, m of them
unfoldable pub joined : (ℕ → List ℕ) → ℕ → ℕ → List ℕ
joined f c zero = []
joined f c (suc m) = f c ++ joined f (suc c) m

-- m blocks of key stream, from that with the number `counter` on
unfoldable pub key_stream : ℕ → List ℕ → ℕ → List ℕ → ℕ → List ℕ
key_stream n key counter nonce m = joined (λ (c : ℕ). key_block n key c nonce) counter m

-- s ⊕ the key stream
unfoldable pub stream : ℕ → List ℕ → ℕ → List ℕ → List ℕ → List ℕ
stream n key counter nonce s = s ⊞ key_stream n key counter nonce ((length s + 63) / 64)

-- ---- draft-irtf-cfrg-xchacha, 2.2: HChaCha

-- the first and the last four words
unfoldable pub ends : List ℕ → List ℕ
ends v = map (λ (i : ℕ). slice_index v i) (0 ∷ 1 ∷ 2 ∷ 3 ∷ 12 ∷ 13 ∷ 14 ∷ 15 ∷ [])

-- of the state after the rounds, with no sum. The last four words of the first state are the nonce, of 16 bytes
unfoldable pub hchacha : ℕ → List ℕ → List ℕ → List ℕ
hchacha n key nonce = bytes (ends (doubles n (initial key (map (word nonce) (0 ∷ 1 ∷ 2 ∷ 3 ∷ [])))))
