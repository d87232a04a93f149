-- What the writers of entries and counts leave, by what each call left.
-- Assumes nothing.
use mathlib.Core.Path.{◌≡◌, sym, ap, ◌∙◌}
use mathlib.Core.List.{List, [], ◌∷◌, ◌++◌, append_assoc}
use Prim.Native.Nat.{ℕ, ◌+◌, ◌-◌, ◌≤◌, min}
use native.Mathlib.Omega.{arith}
use lib.ListN.{length, set, length-append}
use Rattle.octets.specs.Buffers.{put}
use Rattle.octets.specs.Numbers.{to_be}
use Rattle.octets.proofs.BufferLaws.{length-put, put_one, put-behind}
use Rattle.octets.proofs.NumberLaws.{length-to_be}
use Rattle.recording.specs.declared.Entry.{Entry}
use Rattle.mending.specs.Mend.{mended_entry, put_entry}

pub mended-is : (e : Entry) (place size l d : ℕ) → l ≡ min (min e.len 65507) (size - place) → d ≡ min e.direction 2
    → record { offset = place; len = l; direction = d; clock = e.clock } ≡ mended_entry e place size
unfolding mended_entry
mended-is e place size l d p q = λ i. record { offset = place; len = p i; direction = q i; clock = e.clock }

-- an entry's seven bytes, in three writes
module _ (s s₁ s₂ : List ℕ) (at : ℕ) (e : Entry) (fits : at + 15 ≤ length s) where
  pub entry-put : s₁ ≡ put s at (to_be 4 e.offset) → s₂ ≡ put s₁ (at + 4) (to_be 2 e.len) → set s₂ (at + 6) e.direction ≡ put_entry s at e
  unfolding put_entry
  entry-put p q =
      let a = to_be 4 e.offset in
      let b = to_be 2 e.len in
      let la : length a ≡ 4 = length-to_be 4 e.offset in
      let lb : length b ≡ 2 = length-to_be 2 e.len in
      let lab : length (a ++ b) ≡ 6 = length-append a b ∙ omega arith in
      let six : s₂ ≡ put s at (a ++ b) = put-behind s a b s₁ s₂ at (at + 4) (omega arith) (omega arith) p q in
      let size : length s₂ ≡ length s = ap length six ∙ length-put s at (a ++ b) (omega arith) in
      put-behind s (a ++ b) (e.direction ∷ []) s₂ (set s₂ (at + 6) e.direction) at (at + 6) (omega arith) (omega arith) six
      (sym (put_one s₂ (at + 6) e.direction (omega arith)))
      ∙ ap (put s at) (append_assoc a b (e.direction ∷ []))
