-- BLAKE3, section 2.2: the compression function of the chaining value h, the message words m, the counter t, the block's
-- length b and the flags d.
use Rattle.std.specs.Prelude.{List, [], ◌∷◌, ◌++◌, map, ℕ, suc, zero, ◌+◌, ◌/◌, ◌%◌, ◌^◌, get_or, set, take}
use Rattle.blake3_mixing.specs.declared.Quad.{Quad}
use Rattle.blake3_mixing.specs.Mixing.{xor, G}

-- IV 0 to 7
abbrev pub iv : List ℕ
iv = 0x6A09E667 ∷ 0xBB67AE85 ∷ 0x3C6EF372 ∷ 0xA54FF53A ∷ 0x510E527F ∷ 0x9B05688C ∷ 0x1F83D9AB ∷ 0x5BE0CD19 ∷ []

-- the first eight of some words
unfoldable pub first_eight : List ℕ → List ℕ
first_eight l = map (λ (i : ℕ). get_or l i 0) (0 ∷ 1 ∷ 2 ∷ 3 ∷ 4 ∷ 5 ∷ 6 ∷ 7 ∷ [])

-- the state v 0 to 15 before the first round
unfoldable pub initial : List ℕ → ℕ → ℕ → ℕ → List ℕ
initial h t b d = first_eight h ++ take 4 iv ++ (t % 2 ^ 32 ∷ t / 2 ^ 32 ∷ b ∷ d ∷ [])

-- the words of a state at four places
unfoldable pub words_at : List ℕ → ℕ → ℕ → ℕ → ℕ → Quad
words_at v a b c d = record { a = get_or v a 0; b = get_or v b 0; c = get_or v c 0; d = get_or v d 0 }

-- the state with four words replaced
unfoldable pub set_at : List ℕ → ℕ → ℕ → ℕ → ℕ → Quad → List ℕ
set_at v a b c d q = set (set (set (set v a q.a) b q.b) c q.c) d q.d

-- G on the words of a state at four places
unfoldable pub mix_at : List ℕ → ℕ → ℕ → ℕ → ℕ → ℕ → ℕ → List ℕ
mix_at v a b c d x y = set_at v a b c d (G (words_at v a b c d) x y)

-- a round: G on the four columns and then on the four diagonals
unfoldable pub columns : List ℕ → List ℕ → List ℕ
columns v m =
    let v₁ = mix_at v 0 4 8 12 (get_or m 0 0) (get_or m 1 0) in
    let v₂ = mix_at v₁ 1 5 9 13 (get_or m 2 0) (get_or m 3 0) in
    let v₃ = mix_at v₂ 2 6 10 14 (get_or m 4 0) (get_or m 5 0) in
    mix_at v₃ 3 7 11 15 (get_or m 6 0) (get_or m 7 0)

unfoldable pub diagonals : List ℕ → List ℕ → List ℕ
diagonals v m =
    let v₁ = mix_at v 0 5 10 15 (get_or m 8 0) (get_or m 9 0) in
    let v₂ = mix_at v₁ 1 6 11 12 (get_or m 10 0) (get_or m 11 0) in
    let v₃ = mix_at v₂ 2 7 8 13 (get_or m 12 0) (get_or m 13 0) in
    mix_at v₃ 3 4 9 14 (get_or m 14 0) (get_or m 15 0)

unfoldable pub one_round : List ℕ → List ℕ → List ℕ
one_round v m = diagonals (columns v m) m

-- the permutation of the message words between rounds
unfoldable pub permuted : List ℕ → List ℕ
permuted m =
    map (λ (i : ℕ). get_or m i 0) (2 ∷ 6 ∷ 3 ∷ 10 ∷ 7 ∷ 0 ∷ 4 ∷ 13 ∷ 1 ∷ 11 ∷ 12 ∷ 5 ∷ 9 ∷ 14 ∷ 15 ∷ 8 ∷ [])

-- n rounds
unfoldable pub rounds : ℕ → List ℕ → List ℕ → List ℕ
rounds zero v m = v
rounds (suc n) v m = rounds n (one_round v m) (permuted m)

-- the output: v i ⊕ v (i + 8), and v (i + 8) ⊕ h i
unfoldable pub final : List ℕ → List ℕ → List ℕ
final v h =
    map (λ (i : ℕ). xor (get_or v i 0) (get_or v (i + 8) 0)) (0 ∷ 1 ∷ 2 ∷ 3 ∷ 4 ∷ 5 ∷ 6 ∷ 7 ∷ [])
    ++ map (λ (i : ℕ). xor (get_or v (i + 8) 0) (get_or h i 0)) (0 ∷ 1 ∷ 2 ∷ 3 ∷ 4 ∷ 5 ∷ 6 ∷ 7 ∷ [])

-- sixteen words
unfoldable pub compressed : List ℕ → List ℕ → ℕ → ℕ → ℕ → List ℕ
compressed h m t b d = final (rounds 7 (initial h t b d) m) h
