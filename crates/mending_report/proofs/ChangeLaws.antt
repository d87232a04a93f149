-- Changes: how many there are, their words, and what their writers leave.
-- Assumes nothing.
use mathlib.Core.Path.{◌≡◌, refl, sym, ap, subst, ◌∙◌}
use mathlib.Core.Bool.{Bool, true, false, not}
use mathlib.Core.List.{List, [], ◌∷◌, ◌++◌}
use Prim.Native.Nat.{ℕ, ◌+◌, ◌*◌, ◌≤◌}
use native.Mathlib.Omega.{arith}
use lib.Dec.{eqb}
use lib.ListN.{length, take, drop, length-append}
use mir.Val.{bool_byte}
use borrow.Author.Tests.{eq-eqb, ne_eqb, eqb-true, eqb-false}
use Rattle.octets.specs.Buffers.{put}
use Rattle.octets.proofs.BufferLaws.{part-put}
use Rattle.recording.specs.declared.Entry.{Entry}
use Rattle.recording.specs.Written.{Written}
use Rattle.recording.proofs.WrittenLaws.{also, nothing, room, room-behind}
use Rattle.mending_report.specs.Changes.{Change, changed, entry_changes, words}

pub words_append : (xs ys : List Change) → words (xs ++ ys) ≡ words xs ++ words ys
unfolding words
words_append [] ys = refl
words_append (c ∷ xs) ys = ap (λ (l : List ℕ). c.entry ∷ c.field ∷ c.old ∷ c.new ∷ l) (words_append xs ys)

pub length-words : (xs : List Change) → length (words xs) ≡ 4 * length xs
unfolding words
length-words [] = refl
length-words (c ∷ xs) = omega (arith, length-words xs)

pub unchanged : (i f old new : ℕ) → old ≡ new → changed i f old new ≡ []
unfolding changed
unchanged i f old new e = rw (eq-eqb old new e)

pub is-changed : (i f old new : ℕ) → (old ≡ new → ⊥)
    → changed i f old new ≡ record { entry = i; field = f; old = old; new = new } ∷ []
unfolding changed
is-changed i f old new e = rw (ne_eqb old new e)

-- how many changes there are does not go by entry and field
pub as_many : (i f old new : ℕ) → length (changed 0 0 old new) ≡ length (changed i f old new)
as_many i f old new = go (eqb old new) refl
  where
    go : (t : Bool) → eqb old new ≡ t → length (changed 0 0 old new) ≡ length (changed i f old new)
    go true e =
        let k = eqb-true old new e in
        ap length (unchanged 0 0 old new k) ∙ sym (ap length (unchanged i f old new k))
    go false e =
        let k = eqb-false old new e in
        ap length (is-changed 0 0 old new k) ∙ sym (ap length (is-changed i f old new k))

pub entry_length : (i : ℕ) (e f : Entry)
    → length (changed 0 0 e.offset f.offset) + length (changed 0 0 e.len f.len) + length (changed 0 0 e.direction f.direction)
    ≡ length (entry_changes i e f)
unfolding entry_changes
entry_length i e f =
    let a = changed i 1 e.offset f.offset in
    let b = changed i 2 e.len f.len in
    let c = changed i 3 e.direction f.direction in
    omega (
      arith,
      length-append a (b ++ c),
      length-append b c,
      as_many i 1 e.offset f.offset,
      as_many i 2 e.len f.len,
      as_many i 3 e.direction f.direction,
    )

-- a change as a number
pub counted : (old new n : ℕ) → n ≡ bool_byte (not (eqb old new)) → (n ≡ length (changed 0 0 old new)) × (n ≤ 1)
counted old new n e = go (eqb old new) refl
  where
    go : (b : Bool) → eqb old new ≡ b → (n ≡ length (changed 0 0 old new)) × (n ≤ 1)
    go true q =
        let m : n ≡ 0 = e ∙ ap (λ (x : Bool). bool_byte (not x)) q in
        (omega (arith, ap length (unchanged 0 0 old new (eqb-true old new q))), omega arith)
    go false q =
        let m : n ≡ 1 = e ∙ ap (λ (x : Bool). bool_byte (not x)) q in
        (omega (arith, ap length (is-changed 0 0 old new (eqb-false old new q))), omega arith)

-- ---- a change that is written

module _ (d : List ℕ) (at i f old new : ℕ) (fits : at + length (words (changed i f old new)) ≤ length d) where
  pub put-nothing : old ≡ new → Written d at d at (words (changed i f old new))
  unfolding words
  put-nothing e =
      let z : changed i f old new ≡ [] = unchanged i f old new e in
      subst (λ (cs : List Change). Written d at d at (words cs)) (sym z)
      (nothing d at (subst (λ (cs : List Change). at + length (words cs) ≤ length d) z fits))

  module _ (ne : old ≡ new → ⊥) where
    pub room-four : at + 4 ≤ length d
    unfolding words
    room-four = subst (λ (cs : List Change). at + length (words cs) ≤ length d) (is-changed i f old new ne) fits

    pub put_four : (ys : List ℕ) (k : ℕ) → ys ≡ i ∷ f ∷ old ∷ new ∷ [] → k ≡ 4
        → Written d at (take at d ++ (ys ++ drop k (drop at d))) (at + 4) (words (changed i f old new))
    unfolding words
    put_four ys k e four =
        let c : List ℕ = i ∷ f ∷ old ∷ new ∷ [] in
        let z : take at d ++ (ys ++ drop k (drop at d)) ≡ put d at ys = part-put d ys at k (ap length e ∙ sym four) in
        subst (λ (cs : List Change). Written d at (take at d ++ (ys ++ drop k (drop at d))) (at + 4) (words cs)) (sym (is-changed i f old new ne))
        (record { fits = room-four; ends = refl; puts = z ∙ ap (put d at) e })

-- ---- the changes of an entry, in three writes

module _ (i : ℕ) (e f : Entry) where
  abbrev a : List ℕ
  a = words (changed i 1 e.offset f.offset)

  abbrev b : List ℕ
  b = words (changed i 2 e.len f.len)

  abbrev d : List ℕ
  d = words (changed i 3 e.direction f.direction)

  three : words (entry_changes i e f) ≡ a ++ (b ++ d)
  unfolding entry_changes
  three =
      let x = changed i 1 e.offset f.offset in
      let y = changed i 2 e.len f.len in
      let z = changed i 3 e.direction f.direction in
      words_append x (y ++ z) ∙ ap (λ (l : List ℕ). a ++ l) (words_append y z)

  module _ (o : List ℕ) (at : ℕ) (fits : at + length (words (entry_changes i e f)) ≤ length o) where
    split : at + length (a ++ (b ++ d)) ≤ length o
    split = subst (λ (l : List ℕ). at + length l ≤ length o) three fits

    pub room-offset : at + length a ≤ length o
    room-offset = room at (length o) a (b ++ d) split

    module _ (o₁ : List ℕ) (r₁ : ℕ) (p : Written o at o₁ r₁ a) where
      pub room-len : r₁ + length b ≤ length o₁
      room-len = room r₁ (length o₁) b d (room-behind (b ++ d) p split)

      module _ (o₂ : List ℕ) (r₂ : ℕ) (q : Written o₁ r₁ o₂ r₂ b) where
        pub room-direction : r₂ + length d ≤ length o₂
        room-direction = room-behind d q (room-behind (b ++ d) p split)

        pub put_three : (o₃ : List ℕ) (r₃ : ℕ) → Written o₂ r₂ o₃ r₃ d → Written o at o₃ r₃ (words (entry_changes i e f))
        put_three o₃ r₃ z = subst (Written o at o₃ r₃) (sym three) (also p (also q z))
