-- What reads from a file in which an entry or the count was written: themselves, and all else as it was.
-- Assumes nothing.
use mathlib.Core.Path.{◌≡◌, sym, ap, ◌∙◌}
use mathlib.Core.List.{List, [], ◌∷◌, ◌++◌, append_assoc}
use mathlib.Core.Logic.{◌⊎◌, inl, inr}
use Prim.Native.Nat.{ℕ, ◌+◌, ◌-◌, ◌^◌, ◌≤◌, ◌<◌}
use native.Mathlib.Omega.{arith}
use lib.ListN.{length, get_or, take, drop, length-append}
use lib.Seq.{take_at, drop_at, drop-drop, get_or-take, get_or-drop, length-take-le}
use Rattle.octets.specs.Buffers.{put}
use Rattle.octets.specs.Numbers.{be, to_be}
use Rattle.octets.proofs.BufferLaws.{length-put, drop-put}
use Rattle.octets.proofs.NumberLaws.{be-same, be-front, length-to_be}
use Rattle.recording.specs.declared.Entry.{Entry}
use Rattle.recording.specs.Format.{entry_at}
use Rattle.mending.specs.Mend.{put_entry, put_count}

-- p is not among the k places from `at` on
abbrev pub Outside : ℕ → ℕ → ℕ → Type 0
Outside p at k = (p < at) ⊎ (at + k ≤ p)

module _ (d : List ℕ) (at : ℕ) (xs : List ℕ) (fits : at + length xs ≤ length d) where
  front : length (take at d) ≡ at
  front = length-take-le at d (omega arith)

  abbrev rest : List ℕ
  rest = drop (at + length xs) d

  drop-into : drop at (put d at xs) ≡ xs ++ rest
  unfolding put
  drop-into = ap (drop at) (append_assoc (take at d) xs rest) ∙ drop_at (take at d) (xs ++ rest) at front

  take-front : take at (put d at xs) ≡ take at d
  unfolding put
  take-front = ap (take at) (append_assoc (take at d) xs rest) ∙ take_at (take at d) (xs ++ rest) at front

  put-outside : (p : ℕ) → Outside p at (length xs) → get_or (put d at xs) p 0 ≡ get_or d p 0
  put-outside p (inl h) =
      sym (get_or-take at (put d at xs) p 0 h) ∙ ap (λ (l : List ℕ). get_or l p 0) take-front ∙ get_or-take at d p 0 h
  put-outside p (inr h) =
      let k = at + length xs in
      let e : k + (p - k) ≡ p = omega arith in
      ap (λ (m : ℕ). get_or (put d at xs) m 0) (sym e) ∙ sym (get_or-drop k (put d at xs) (p - k) 0)
      ∙ ap (λ (l : List ℕ). get_or l (p - k) 0) (drop-put d at xs fits) ∙ get_or-drop k d (p - k) 0 ∙ ap (λ (m : ℕ). get_or d m 0) e

-- entries of equal bytes are equal
pub entry-same : (s t : List ℕ) (at : ℕ) → ((p : ℕ) → at ≤ p → p < at + 15 → get_or t p 0 ≡ get_or s p 0) → entry_at t at ≡ entry_at s at
unfolding entry_at
entry-same s t at h =
    λ i.
    record {
      offset = number 4 at (omega arith) (omega arith) i;
      len = number 2 (at + 4) (omega arith) (omega arith) i;
      direction = h (at + 6) (omega arith) (omega arith) i;
      clock = number 8 (at + 7) (omega arith) (omega arith) i;
    }
  where
    number : (k place : ℕ) → at ≤ place → place + k ≤ at + 15 → be k (drop place t) ≡ be k (drop place s)
    number k place a b =
        be-same k (drop place t) (drop place s)
        (λ i l. get_or-drop place t i 0 ∙ h (place + i) (omega arith) (omega arith) ∙ sym (get_or-drop place s i 0))

-- ---- an entry that was written

module _ (s : List ℕ) (at : ℕ) (e : Entry) (fits : at + 15 ≤ length s) where
  abbrev fields : List ℕ
  fields = to_be 4 e.offset ++ (to_be 2 e.len ++ (e.direction ∷ []))

  seven : length fields ≡ 7
  seven =
      omega (
        arith,
        length-append (to_be 4 e.offset) (to_be 2 e.len ++ (e.direction ∷ [])),
        length-append (to_be 2 e.len) (e.direction ∷ []),
        length-to_be 4 e.offset,
        length-to_be 2 e.len,
      )

  inside : at + length fields ≤ length s
  inside = omega (arith, seven)

  pub length-entry : length (put_entry s at e) ≡ length s
  unfolding put_entry
  length-entry = length-put s at fields inside

  pub entry-else : (p : ℕ) → Outside p at 7 → get_or (put_entry s at e) p 0 ≡ get_or s p 0
  unfolding put_entry
  entry-else p h = put-outside s at fields inside p (moved h)
    where
      moved : Outside p at 7 → Outside p at (length fields)
      moved (inl l) = inl l
      moved (inr l) = inr (omega (arith, seven))

  abbrev left : List ℕ
  left = drop (at + length fields) s

  offset-back : e.offset < 256 ^ 4 → be 4 (drop at (put s at fields)) ≡ e.offset
  offset-back h =
      ap (be 4) (drop-into s at fields inside ∙ append_assoc (to_be 4 e.offset) (to_be 2 e.len ++ (e.direction ∷ [])) left)
      ∙ be-front 4 e.offset _ h

  len-back : e.len < 256 ^ 2 → be 2 (drop (at + 4) (put s at fields)) ≡ e.len
  len-back h =
      let tail = (to_be 2 e.len ++ (e.direction ∷ [])) ++ left in
      ap (be 2)
      (sym (drop-drop 4 at (put s at fields))
      ∙ ap (drop 4) (drop-into s at fields inside ∙ append_assoc (to_be 4 e.offset) (to_be 2 e.len ++ (e.direction ∷ [])) left)
      ∙ drop_at (to_be 4 e.offset) tail 4 (length-to_be 4 e.offset)
      ∙ append_assoc (to_be 2 e.len) (e.direction ∷ []) left)
      ∙ be-front 2 e.len _ h

  direction-back : get_or (put s at fields) (at + 6) 0 ≡ e.direction
  unfolding to_be
  direction-back = sym (get_or-drop at (put s at fields) 6 0) ∙ ap (λ (l : List ℕ). get_or l 6 0) (drop-into s at fields inside)

  clock-back : be 8 (drop (at + 7) (put s at fields)) ≡ be 8 (drop (at + 7) s)
  clock-back =
      ap (λ (k : ℕ). be 8 (drop (at + k) (put s at fields))) (sym seven) ∙ ap (be 8) (drop-put s at fields inside)
      ∙ ap (λ (k : ℕ). be 8 (drop (at + k) s)) seven

  -- it reads as it was written, with the clock that stands there
  pub entry-back : e.offset < 4294967296 → e.len < 65536 → (entry_at s at).clock ≡ e.clock → entry_at (put_entry s at e) at ≡ e
  unfolding entry_at put_entry
  entry-back h k c =
      λ i.
      record { offset = offset-back h i; len = len-back k i; direction = direction-back i; clock = (clock-back ∙ c) i }

-- ---- a count that was written

module _ (s : List ℕ) (n : ℕ) (fits : 4 ≤ length s) where
  four : 0 + length (to_be 4 n) ≤ length s
  four = omega (arith, length-to_be 4 n)

  pub length-count : length (put_count s n) ≡ length s
  length-count = length-put s 0 (to_be 4 n) four

  pub count-else : (p : ℕ) → 4 ≤ p → get_or (put_count s n) p 0 ≡ get_or s p 0
  count-else p h = put-outside s 0 (to_be 4 n) four p (inr (omega (arith, length-to_be 4 n)))

  pub count-back : n < 4294967296 → be 4 (put_count s n) ≡ n
  count-back h = ap (be 4) (drop-into s 0 (to_be 4 n) four) ∙ be-front 4 n _ h
