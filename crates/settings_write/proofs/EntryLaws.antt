-- The contents of a file: their length, and those before a setting and behind it.
-- Assumes nothing.
use mathlib.Core.Path.{◌≡◌, refl, sym, ap, ◌∙◌}
use mathlib.Core.List.{List, ◌++◌, append_assoc, append-nil}
use Prim.Native.Nat.{ℕ, zero, suc, ◌+◌, ◌-◌, ◌*◌, ◌≤◌, ◌<◌}
use native.Mathlib.Omega.{arith}
use lib.ListN.{length, length-append}
use Rattle.octets.specs.Buffers.{put}
use Rattle.octets.specs.Numbers.{to_be}
use Rattle.octets.proofs.BufferLaws.{put-behind}
use Rattle.octets.proofs.NumberLaws.{length-to_be}
use Rattle.settings_file.specs.Format.{place_of}
use Rattle.settings_write.specs.Writing.{number_at, length_at, size_of, before, entry_bytes, entries}

pub length-entry : (number offset len : ℕ) → length (entry_bytes number offset len) ≡ 6
length-entry number offset len =
    length-append (to_be 2 number) (to_be 2 offset ++ to_be 2 len)
    ∙ omega (arith, length-append (to_be 2 offset) (to_be 2 len), length-to_be 2 number, length-to_be 2 offset, length-to_be 2 len)

-- an entry, field by field
pub put-entry : (d : List ℕ) (at number offset len : ℕ) (u v w : List ℕ) → at + 6 ≤ length d → u ≡ put d at (to_be 2 number)
    → v ≡ put u (at + 2) (to_be 2 offset) → w ≡ put v (at + 4) (to_be 2 len) → w ≡ put d at (entry_bytes number offset len)
put-entry d at number offset len u v w h eu ev ew =
    let a = to_be 2 number in
    let b = to_be 2 offset in
    let la = length-to_be 2 number in
    let lb = length-to_be 2 offset in
    let lab = length-append a b in
    let n₁ : at + 2 ≡ at + length a = omega (arith, la) in
    let n₂ : at + 4 ≡ at + length (a ++ b) = omega (arith, la, lb, lab) in
    put-behind d (a ++ b) (to_be 2 len) v w at (at + 4) n₂ (omega (arith, h, n₂)) (put-behind d a b u v at (at + 2) n₁ (omega (arith, h, n₁)) eu ev) ew
    ∙ ap (put d at) (append_assoc a b (to_be 2 len))

module _ (ws : List ℕ) where
  -- the bytes of entry i
  abbrev pub entry_of : ℕ → List ℕ
  entry_of i = entry_bytes (number_at ws i) (place_of (size_of ws) + before ws i) (length_at ws i)

  pub length-entries : (n i : ℕ) → length (entries ws n i) ≡ 6 * n
  unfolding entries
  length-entries zero i = refl
  length-entries (suc n) i =
      length-append (entry_of i) (entries ws n (i + 1))
      ∙ omega (arith, length-entry (number_at ws i) (place_of (size_of ws) + before ws i) (length_at ws i), length-entries n (i + 1))

  pub entries-split : (n m i : ℕ) → entries ws (n + m) i ≡ entries ws n i ++ entries ws m (i + n)
  unfolding entries
  entries-split zero m i =
      let e : zero + m ≡ m = omega arith in
      let f : i ≡ i + zero = omega arith in
      λ k. entries ws (e k) (f k)
  entries-split (suc n) m i =
      let e : suc n + m ≡ suc (n + m) = omega arith in
      let f : i + 1 + n ≡ i + suc n = omega arith in
      ap (λ (k : ℕ). entries ws k i) e
      ∙ ap (λ (x : List ℕ). entry_of i ++ x) (entries-split n m (i + 1) ∙ ap (λ (k : ℕ). entries ws n (i + 1) ++ entries ws m k) f)
      ∙ sym (append_assoc (entry_of i) (entries ws n (i + 1)) (entries ws m (i + suc n)))

  entries-one : (i : ℕ) → entries ws 1 i ≡ entry_of i
  unfolding entries
  entries-one i = append-nil (entry_of i)

  entries_next : (i : ℕ) → entries ws (i + 1) 0 ≡ entries ws i 0 ++ entry_of i
  entries_next i = entries-split i 1 0 ∙ ap (λ (x : List ℕ). entries ws i 0 ++ x) (let e : 0 + i ≡ i = omega arith in ap (entries ws 1) e ∙ entries-one i)

  -- entry i among n
  pub entries_at : (n i : ℕ) → i < n → entries ws n 0 ≡ entries ws i 0 ++ (entry_of i ++ entries ws (n - (i + 1)) (i + 1))
  entries_at n i l =
      let m = n - (i + 1) in
      let e : n ≡ i + 1 + m = omega arith in
      let f : 0 + (i + 1) ≡ i + 1 = omega arith in
      ap (λ (k : ℕ). entries ws k 0) e ∙ entries-split (i + 1) m 0
      ∙ (λ k. entries_next i k ++ entries ws m (f k))
      ∙ append_assoc (entries ws i 0) (entry_of i) (entries ws m (i + 1))

  -- one entry more is written
  pub put_entries : (d : List ℕ) (i offset : ℕ) (v w : List ℕ) → 4 + 6 * i + 6 ≤ length d → offset ≡ place_of (size_of ws) + before ws i
      → v ≡ put d 4 (entries ws i 0) → w ≡ put v (4 + 6 * i) (entry_bytes (number_at ws i) offset (length_at ws i))
      → w ≡ put d 4 (entries ws (i + 1) 0)
  put_entries d i offset v w h eo ev ew =
      let l = length-entries i 0 in
      let n : 4 + 6 * i ≡ 4 + length (entries ws i 0) = omega (arith, l) in
      put-behind d (entries ws i 0) (entry_of i) v w 4 (4 + 6 * i) n (omega (arith, l, h)) ev
      (ew ∙ ap (λ (x : ℕ). put v (4 + 6 * i) (entry_bytes (number_at ws i) x (length_at ws i))) eo)
      ∙ ap (put d 4) (sym (entries_next i))
