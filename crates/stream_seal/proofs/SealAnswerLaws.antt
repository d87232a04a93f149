-- What sealing a chunk answers: one law for each way out, and what an answered length tells.
-- Assumes nothing.
use Rattle.std.specs.Prelude.{Err, Ok, Result}
use mathlib.Core.Path.{◌≡◌, refl, sym, ap, ◌∙◌}
use mathlib.Core.Bool.{Bool, true, false, cond}
use Prim.Native.Nat.{ℕ, ◌+◌, ◌-◌, ◌≤◌, ◌<◌}
use native.Mathlib.Omega.{arith}
use lib.Dec.{eqb, leb, ltb}
use borrow.Author.Tests.{eq-eqb, ne_eqb, le-leb, lt-leb, lt-ltb, le-ltb, leb-true, ltb-true, eqb-false}
use Rattle.protocol.specs.declared.Refusal.{Refusal}
use Rattle.protocol.specs.declared.Refusal.TheVariants.{Settings, Length, Room, Counter, Empty}
use Rattle.stream_pieces.specs.declared.Subkey.{Subkey}
use Rattle.stream_seal.specs.declared.Sender.{Sender}
use Rattle.stream_pieces.specs.declared.Framing.{Framing}
use Rattle.stream_pieces.specs.Framing.{under}
use Rattle.stream_pieces.specs.Pieces.{last_counter}
use Rattle.stream_seal.specs.Sealing.{moved, size_answer, framed_answer}

-- ---- refusals for length and room

module _ (greatest n before room : ℕ) (s : Sender) where
  size-decided : (a b : Bool) → leb n greatest ≡ a → leb (before + n + 16) room ≡ b
      → cond a (cond b (Ok (before + n + 16, s)) (Err Room)) (Err Length) ≡ size_answer greatest n before room s
  unfolding size_answer
  size-decided a b ea eb =
      λ i. cond (sym ea i) (cond (sym eb i) (Ok (before + n + 16, s)) (Err Room)) (Err Length)

  pub too_long : greatest < n → Err Length ≡ size_answer greatest n before room s
  too_long h = size-decided false (leb (before + n + 16) room) (lt-leb n greatest h) refl

  pub no_room : n ≤ greatest → room < before + n + 16 → Err Room ≡ size_answer greatest n before room s
  no_room h l = size-decided true false (le-leb n greatest h) (lt-leb (before + n + 16) room l)

  pub fitting : n ≤ greatest → before + n + 16 ≤ room → Ok (before + n + 16, s) ≡ size_answer greatest n before room s
  fitting h l = size-decided true true (le-leb n greatest h) (le-leb (before + n + 16) room l)

-- ---- the answer to a chunk

module _ (f : Framing) (s : Sender) (payload room : ℕ) where
  chunk-decided : (a b c : Bool) → eqb f.key 0 ≡ a → under f payload ≡ b → ltb s.counter (last_counter - 1) ≡ c
      → cond a (Err Settings)
      (cond b (Err Empty) (cond c (size_answer f.greatest payload 18 room (moved s)) (Err Counter)))
      ≡ framed_answer f s payload room
  unfolding framed_answer
  chunk-decided a b c ea eb ec =
      λ i. cond (sym ea i) (Err Settings)
      (cond (sym eb i) (Err Empty) (cond (sym ec i) (size_answer f.greatest payload 18 room (moved s)) (Err Counter)))

  pub chunk-unfit : f.key ≡ 0 → Err Settings ≡ framed_answer f s payload room
  chunk-unfit z = chunk-decided true _ _ (eq-eqb f.key 0 z) refl refl

  module _ (known : f.key ≡ 0 → ⊥) where
    pub chunk-under : payload < f.least → Err Empty ≡ framed_answer f s payload room
    chunk-under h = chunk-decided false true _ (ne_eqb f.key 0 known) (lt-ltb payload f.least h) refl

    module _ (enough : f.least ≤ payload) where
      pub chunk-used : last_counter - 1 ≤ s.counter → Err Counter ≡ framed_answer f s payload room
      chunk-used h =
          chunk-decided false false false (ne_eqb f.key 0 known) (le-ltb payload f.least enough)
          (le-ltb s.counter (last_counter - 1) h)

      pub chunk-sized : s.counter < last_counter - 1 → (t : Sender) → t ≡ moved s → (r : Result (ℕ × Sender) Refusal)
          → r ≡ size_answer f.greatest payload 18 room t → r ≡ framed_answer f s payload room
      chunk-sized h t et r er =
          er ∙ ap (size_answer f.greatest payload 18 room) et
          ∙ chunk-decided false false true (ne_eqb f.key 0 known) (le-ltb payload f.least enough)
          (lt-ltb s.counter (last_counter - 1) h)

-- ---- what a length that was answered tells

abbrev length_of : Result (ℕ × Sender) Refusal → ℕ
length_of (Ok (n, s)) = n
length_of (Err r) = 0

abbrev words_of : Subkey → Result (ℕ × Sender) Refusal → Subkey
words_of w (Ok (n, s)) = s.subkey
words_of w (Err r) = w

abbrev is_bytes : Result (ℕ × Sender) Refusal → ℕ
is_bytes (Ok (n, s)) = 1
is_bytes (Err r) = 0

not-refused : (r : Refusal) (n : ℕ) (s : Sender) → ◌≡◌ {A = Result (ℕ × Sender) Refusal} (Err r) (Ok (n, s)) → ⊥
not-refused r n s e = let z : ◌≡◌ {A = ℕ} 0 1 = ap is_bytes e in omega arith

pub passed : (b : Bool) (x : Result (ℕ × Sender) Refusal) (r : Refusal) (n : ℕ) (s : Sender) → cond b x (Err r) ≡ Ok (n, s) → (b ≡ true) × (x ≡ Ok (n, s))
passed true x r n s e = (refl, e)
passed false x r n s e = absurd (not-refused r n s e)

pub escaped : (b : Bool) (x : Result (ℕ × Sender) Refusal) (r : Refusal) (n : ℕ) (s : Sender) → cond b (Err r) x ≡ Ok (n, s) → (b ≡ false) × (x ≡ Ok (n, s))
escaped true x r n s e = absurd (not-refused r n s e)
escaped false x r n s e = (refl, e)

-- the answer that was found to be good
pub answered : (r a : Result (ℕ × Sender) Refusal) (n : ℕ) (s : Sender) → r ≡ a → r ≡ Ok (n, s) → a ≡ Ok (n, s)
answered r a n s e f = sym e ∙ f

-- of a piece of n bytes, at most so many, behind others: m bytes are due
pub record Sized (greatest n before room m : ℕ) (w v : Subkey) : Type 0 where
  pub most : n ≤ greatest
  pub size : m ≡ before + n + 16
  pub space : m ≤ room
  pub words : v ≡ w

pub sized : (greatest n before room : ℕ) (s : Sender) (m : ℕ) (t : Sender) → size_answer greatest n before room s ≡ Ok (m, t)
    → Sized greatest n before room m s.subkey t.subkey
unfolding size_answer
sized greatest n before room s m t e =
    let e₁ = passed (leb n greatest) _ _ m t e in
    let e₂ = passed (leb (before + n + 16) room) _ _ m t e₁.1 in
    let is : before + n + 16 ≡ m = ap length_of e₂.1 in
    let within : before + n + 16 ≤ room = leb-true (before + n + 16) room e₂.0 in
    record {
      most = leb-true n greatest e₁.0;
      size = sym is;
      space = omega (arith, is, within);
      words = sym (ap (words_of s.subkey) e₂.1);
    }

pub record SealableChunk (f : Framing) (s : Sender) (payload room n : ℕ) : Type 0 where
  pub known : f.key ≡ 0 → ⊥
  pub counter : s.counter < last_counter - 1
  pub most : payload ≤ f.greatest
  pub size : n ≡ 18 + payload + 16
  pub space : n ≤ room

pub chunk-sealable : (f : Framing) (s : Sender) (payload room n : ℕ) (t : Sender) → framed_answer f s payload room ≡ Ok (n, t)
    → SealableChunk f s payload room n
unfolding framed_answer
chunk-sealable f s payload room n t e =
    let e₁ = escaped (eqb f.key 0) _ _ n t e in
    let e₃ = escaped (under f payload) _ _ n t e₁.1 in
    let e₂ = passed (ltb s.counter (last_counter - 1)) _ _ n t e₃.1 in
    let z = sized f.greatest payload 18 room (moved s) n t e₂.1 in
    record {
      known = eqb-false f.key 0 e₁.0;
      counter = ltb-true s.counter (last_counter - 1) e₂.0;
      most = z.most;
      size = z.size;
      space = z.space;
    }

-- the same of a call that answered so
pub chunk-answered : (f : Framing) (s : Sender) (payload room n : ℕ) (t : Sender) (r : Result (ℕ × Sender) Refusal)
    → r ≡ framed_answer f s payload room → r ≡ Ok (n, t) → SealableChunk f s payload room n
chunk-answered f s payload room n t r e is = chunk-sealable f s payload room n t (answered r _ n t e is)
