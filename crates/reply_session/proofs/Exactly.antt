-- When exactly a reply session begins: by the cases of its answer. Assumes nothing.
use Rattle.std.specs.Prelude.{Err, Ok, Result, None, Option, Some}
use mathlib.Core.Path.{◌≡◌, refl, sym, ap, ◌∙◌}
use mathlib.Core.Logic.{◌≢◌}
use mathlib.Core.Bool.{Bool, true, false, ◌&&◌, true≢false, and-eq-true_iff}
use mathlib.Core.List.{List}
use Prim.Native.Nat.{ℕ, zero-le}
use native.Mathlib.Omega.{arith}
use lib.Dec.{eqb}
use borrow.Author.Tests.{eqb-true, eqb-false, eq-eqb}
use Rattle.records.proofs.SearchLaws.{lowest-found, lowest-none}
use Rattle.protocol.specs.declared.Refusal.TheVariants.{Settings, Argument}
use Rattle.protocol.specs.Refusal.{refusal_number}
use Rattle.session_table.specs.Sizes.{capacity}
use Rattle.session_table.specs.Table.{retention, lawful, record_at, live, holds, session_place, is_place, taken}
use Rattle.datagram_seal.specs.Sealing.{server_sender}
use Rattle.reply_session.specs.Beginning.{reply_begun}
use Rattle.reply_session.specs.Exactly.{AllOthers, BeginsExactly, ReplyBeginsExactly}
use Rattle.reply_session.proofs.BeginLaws.{unlawful, own-client, others-client, free}
use Rattle.datagram_seal.specs.declared.Sender.{Sender}
use Rattle.protocol.specs.declared.Refusal.{Refusal}

-- ---- the table

module _ (t : List ℕ) (clock id : ℕ) where
  abbrev holder : ℕ → Bool
  holder i = holds (retention t) clock id (record_at t i)

  -- an ID that is taken is that of a record alive
  taken-by : taken t clock id ≡ true → AllOthers t clock id → ⊥
  unfolding taken session_place
  taken-by e others = go (session_place t clock id) refl
    where
      go : (o : Option ℕ) → session_place t clock id ≡ o → ⊥
      go None f = true≢false (sym e ∙ ap is_place f)
      go (Some i) f =
          let k = lowest-found holder 0 capacity i f in
          let both = (and-eq-true_iff (live (retention t) clock (record_at t i)) (eqb (record_at t i).id id)).0 k.2 in
          others i (omega (arith, k.1)) both.0 (eqb-true (record_at t i).id id both.1)

  -- and where it is not, every record alive has another
  all_others : taken t clock id ≡ false → AllOthers t clock id
  unfolding taken session_place
  all_others e = go (session_place t clock id) refl
    where
      go : (o : Option ℕ) → session_place t clock id ≡ o → AllOthers t clock id
      go (Some i) f = absurd (true≢false (sym (ap is_place f) ∙ e))
      go None f = λ i l a same.
          true≢false
          (sym (λ k. a k && eq-eqb (record_at t i).id id same k) ∙ lowest-none holder 0 capacity f i zero-le (omega arith))

-- ---- the answer

abbrev number_of : Result Sender Refusal → ℕ
number_of (Ok s) = 0
number_of (Err r) = refusal_number r

-- the three that there are
data Cases (t : List ℕ) (clock id client : ℕ) : Type 0 where
  not-lawful : lawful t ≡ false → reply_begun t clock id client ≡ Err Settings → Cases t clock id client
  clashes : lawful t ≡ true → (AllOthers t clock id → id ≢ client → ⊥) → reply_begun t clock id client ≡ Err Argument → Cases t clock id client
  begins : lawful t ≡ true → AllOthers t clock id → id ≢ client → reply_begun t clock id client ≡ Ok (server_sender id client) → Cases t clock id client

module _ (t : List ℕ) (clock id client : ℕ) where
  cases : Cases t clock id client
  cases = go (lawful t) (eqb id client) (taken t clock id) refl refl refl
    where
      go : (l s u : Bool) → lawful t ≡ l → eqb id client ≡ s → taken t clock id ≡ u → Cases t clock id client
      go false s u el es eu = not-lawful el (unlawful t clock id client el)
      go true true u el es eu =
          let same = eqb-true id client es in clashes el (λ _ n. n same) (own-client t clock id client el same)
      go true false true el es eu = clashes el (λ others _. taken-by t clock id eu others) (others-client t clock id client el eu)
      go true false false el es eu =
          let n = eqb-false id client es in begins el (all_others t clock id eu) n (free t clock id client el n eu)

  abbrev answer : Result Sender Refusal
  answer = reply_begun t clock id client

  -- answers of different numbers are not equal
  differ : (a b : Result Sender Refusal) → answer ≡ a → answer ≡ b → number_of a ≡ number_of b
  differ a b e f = ap number_of (sym e ∙ f)

  exactly : Cases t clock id client → BeginsExactly t clock id client answer
  exactly (not-lawful l e) =
      record {
        begun-only-when = λ f. absurd (let z : ◌≡◌ {A = ℕ} 1 0 = differ _ _ e f in omega arith);
        begun-when = λ l'. absurd (true≢false (sym l' ∙ l));
        refused-1-only-when = λ _. l;
        refused-1-when = λ _. e;
        refused-12-only-when = λ f. absurd (let z : ◌≡◌ {A = ℕ} 1 12 = differ _ _ e f in omega arith);
        refused-12-when = λ l'. absurd (true≢false (sym l' ∙ l));
      }
  exactly (clashes l n e) =
      record {
        begun-only-when = λ f. absurd (let z : ◌≡◌ {A = ℕ} 12 0 = differ _ _ e f in omega arith);
        begun-when = λ _ others other. absurd (n others other);
        refused-1-only-when = λ f. absurd (let z : ◌≡◌ {A = ℕ} 12 1 = differ _ _ e f in omega arith);
        refused-1-when = λ l'. absurd (true≢false (sym l ∙ l'));
        refused-12-only-when = λ _. (l, n);
        refused-12-when = λ _ _. e;
      }
  exactly (begins l others other e) =
      record {
        begun-only-when = λ _. (l, (others, other));
        begun-when = λ _ _ _. e;
        refused-1-only-when = λ f. absurd (let z : ◌≡◌ {A = ℕ} 0 1 = differ _ _ e f in omega arith);
        refused-1-when = λ l'. absurd (true≢false (sym l ∙ l'));
        refused-12-only-when = λ f. absurd (let z : ◌≡◌ {A = ℕ} 0 12 = differ _ _ e f in omega arith);
        refused-12-when = λ _ n. absurd (n others other);
      }

pub reply-begins-exactly : ReplyBeginsExactly
reply-begins-exactly t clock id client = exactly t clock id client (cases t clock id client)
