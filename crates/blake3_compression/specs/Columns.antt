-- A state, or a message, as its four columns.
use Rattle.std.specs.Prelude.{List, [], ◌∷◌, map, ℕ, get_or}
use Rattle.blake3_mixing.specs.declared.Quad.{Quad}
use Rattle.blake3_compression.specs.declared.State.{State}

-- the sixteen words of four columns
unfoldable pub words : State → List ℕ
words t =
    t.p.a ∷ t.q.a ∷ t.r.a ∷ t.s.a ∷ t.p.b ∷ t.q.b ∷ t.r.b ∷ t.s.b
    ∷ t.p.c ∷ t.q.c ∷ t.r.c ∷ t.s.c ∷ t.p.d ∷ t.q.d ∷ t.r.d ∷ t.s.d ∷ []

-- the words of four columns on a diagonal
abbrev pub diagonal : Quad → Quad → Quad → Quad → Quad
diagonal a b c d = record { a = a.a; b = b.b; c = c.c; d = d.d }

-- the first sixteen of some words
unfoldable pub sixteen : List ℕ → List ℕ
sixteen v = map (λ (i : ℕ). get_or v i 0) (0 ∷ 1 ∷ 2 ∷ 3 ∷ 4 ∷ 5 ∷ 6 ∷ 7 ∷ 8 ∷ 9 ∷ 10 ∷ 11 ∷ 12 ∷ 13 ∷ 14 ∷ 15 ∷ [])
