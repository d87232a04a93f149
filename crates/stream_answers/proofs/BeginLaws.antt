-- What stands after a stream was begun in lent words, case by case. Assumes nothing.
use Rattle.std.specs.Prelude.{Err, Ok, Result, MatchResult, IsOkAnd}
use Prim.Native.Nat.{ℕ}
use mathlib.Core.Bool.{Bool, true, false, cond}
use mathlib.Core.List.{List}
use mathlib.Core.Path.{◌≡◌, refl, sym, ap, ◌∙◌}
use lib.Dec.{eqb}
use lib.ListN.{length}
use lib.Seq.{sets}
use borrow.Author.Tests.{eq-eqb, ne_eqb}
use Rattle.protocol.specs.declared.Refusal.{Refusal}
use Rattle.stream_seal.specs.declared.Sender.{Sender}
use Rattle.stream_open.specs.declared.Receiver.{Receiver}
use Rattle.words.specs.States.{stream_size, sender_words, receiver_words}
use Rattle.words.proofs.LentLaws.{filled}
use Rattle.stream_answers.specs.Beginning.{AfterBegin, begins, words_told, sender_told, receiver_told}

module _ (x : AfterBegin) (w : List ℕ) where
  by_size : (b : Bool) → eqb (length w) stream_size ≡ b → cond b x (record { number = 1; stream = w }) ≡ begins x w
  unfolding begins
  by_size b e = sym (ap (λ (z : Bool). cond z x (record { number = 1; stream = w })) e)

  pub not-lent : (length w ≡ stream_size → ⊥) → record { number = 1; stream = w } ≡ begins x w
  not-lent n = by_size false (ne_eqb (length w) stream_size n)

  module _ (e : length w ≡ stream_size) where
    lent : x ≡ begins x w
    lent = by_size true (eq-eqb (length w) stream_size e)

    -- words as many as a stream has fill it
    pub has-begun : (us vs left : List ℕ) → x ≡ record { number = 0; stream = us } → length us ≡ stream_size → vs ≡ us → left ≡ sets w 0 vs
        → record { number = 0; stream = left } ≡ begins x w
    has-begun us vs left f l g h =
        ap (λ (z : List ℕ). record { number = 0; stream = z }) (h ∙ ap (λ (v : List ℕ). sets w 0 v) g ∙ filled w us (e ∙ sym l))
        ∙ sym f ∙ lent

    pub not-begun : (m n : ℕ) → x ≡ record { number = m; stream = w } → n ≡ m → record { number = n; stream = w } ≡ begins x w
    not-begun m n f g = ap (λ (z : ℕ). record { number = z; stream = w }) g ∙ sym f ∙ lent
