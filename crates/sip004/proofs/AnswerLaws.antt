-- What sealing and opening answer by the lengths of what is lent, and what an answered length tells.
-- Assumes nothing.
use Rattle.std.specs.Prelude.{Err, Ok, Result}
use mathlib.Core.Path.{◌≡◌, refl, sym, ap, ◌∙◌}
use mathlib.Core.Bool.{Bool, true, false, cond, ◌&&◌, and-eq-true_iff}
use mathlib.Core.List.{List}
use Prim.Native.Nat.{ℕ, ◌+◌, ◌-◌, ◌≤◌, ◌<◌}
use native.Mathlib.Omega.{arith}
use lib.Dec.{leb}
use lib.ListN.{length}
use borrow.Author.Tests.{le-leb, lt-leb, leb-true}
use Rattle.octets.specs.Buffers.{put}
use Rattle.aes.specs.Keyed.{nk_of}
use Rattle.protocol.specs.declared.Refusal.{Refusal}
use Rattle.protocol.specs.declared.Refusal.TheVariants.{Settings, Length, Room, NotAuthentic}
use Rattle.sip004.specs.Method.{key_fits, settings_fit}
use Rattle.sip004.specs.Datagram.{max_datagram, overhead, length_answer, seal_answer, due_answer, lawful_answer, body_authentic, payload_of, judged, open_answer, open_out}
use Rattle.sip004.proofs.MethodLaws.{fits-sizes, settings-sizes}

-- ---- what a length that sealing answered tells

pub record Sealable (method key salt payload room n : ℕ) : Type 0 where
  pub fits : key_fits method key ≡ true
  pub of-aes : 0 < nk_of key
  pub same_length : salt ≡ key
  pub size : n ≡ payload + overhead salt
  pub most : n ≤ max_datagram
  pub space : n ≤ room

abbrev sealed_in : Result ℕ Refusal → ℕ
sealed_in (Ok n) = n
sealed_in (Err r) = 0

abbrev is_sealed : Result ℕ Refusal → ℕ
is_sealed (Ok n) = 1
is_sealed (Err r) = 0

seals : (b : Bool) (x : Result ℕ Refusal) (r : Refusal) (n : ℕ) → cond b x (Err r) ≡ Ok n → (b ≡ true) × (x ≡ Ok n)
seals true x r n e = (refl, e)
seals false x r n e = absurd (let z : ◌≡◌ {A = ℕ} 0 1 = ap is_sealed e in omega arith)

module _ (method key salt payload room n : ℕ) where
  pub sealable : seal_answer method key salt payload room ≡ Ok n → Sealable method key salt payload room n
  unfolding seal_answer length_answer
  sealable e =
      let m = payload + overhead salt in
      let e₁ = seals (settings_fit method key salt) _ _ n e in
      let e₂ = seals (leb m max_datagram) _ _ n e₁.1 in
      let e₃ = seals (leb m room) _ _ n e₂.1 in
      let is : m ≡ n = ap sealed_in e₃.1 in
      let s = settings-sizes method key salt e₁.0 in
      let most = leb-true m max_datagram e₂.0 in
      let space = leb-true m room e₃.0 in
      record {
        fits = s.0;
        of-aes = (fits-sizes method key s.0).of-aes;
        same_length = s.1;
        size = sym is;
        most = omega (arith, is, most);
        space = omega (arith, is, space);
      }

-- ---- opening

module _ (k n room : ℕ) where
  due-decided : (a b c : Bool) → leb (overhead k) n ≡ a → leb n max_datagram ≡ b → leb (n - overhead k) room ≡ c
      → cond (a && b) (cond c (Ok (n - overhead k)) (Err Room)) (Err Length) ≡ due_answer k n room
  unfolding due_answer
  due-decided a b c ea eb ec =
      λ i. cond (sym ea i && sym eb i) (cond (sym ec i) (Ok (n - overhead k)) (Err Room)) (Err Length)

  module _ (least : overhead k ≤ n) where
    pub text-fits : n ≤ max_datagram → n - overhead k ≤ room → Ok (n - overhead k) ≡ due_answer k n room
    text-fits h l = due-decided true true true (le-leb (overhead k) n least) (le-leb n max_datagram h) (le-leb (n - overhead k) room l)

module _ (method k n room : ℕ) where
  pub own_key : key_fits method k ≡ true → (r : Result ℕ Refusal) → r ≡ due_answer k n room → r ≡ lawful_answer method k n room
  unfolding lawful_answer
  own_key e r er = er ∙ ap (λ (b : Bool). cond b (due_answer k n room) (Err Settings)) (sym e)

-- the tag's part of the answer, and what is left in the buffer
module _ (method : ℕ) (key s out : List ℕ) (a : Result ℕ Refusal) (lengths : a ≡ lawful_answer method (length key) (length s) (length out)) where
  pub judged-as : (q : Result ℕ Refusal) (b : Bool) → a ≡ q → b ≡ body_authentic key s → judged q b ≡ open_answer method key s (length out)
  unfolding open_answer
  judged-as q b eq eb = λ i. judged ((sym eq ∙ lengths) i) (eb i)

-- ---- what a length that is due tells

pub record Openable (method k n room due : ℕ) : Type 0 where
  pub fits : key_fits method k ≡ true
  pub of-aes : 0 < nk_of k
  pub least : overhead k ≤ n
  pub most : n ≤ max_datagram
  pub size : due ≡ n - overhead k
  pub space : due ≤ room

abbrev opened_in : Result ℕ Refusal → ℕ
opened_in (Ok n) = n
opened_in (Err r) = 0

abbrev is_opened : Result ℕ Refusal → ℕ
is_opened (Ok n) = 1
is_opened (Err r) = 0

opens : (b : Bool) (x : Result ℕ Refusal) (r : Refusal) (n : ℕ) → cond b x (Err r) ≡ Ok n → (b ≡ true) × (x ≡ Ok n)
opens true x r n e = (refl, e)
opens false x r n e = absurd (let z : ◌≡◌ {A = ℕ} 0 1 = ap is_opened e in omega arith)

module _ (method k n room due : ℕ) where
  pub openable : lawful_answer method k n room ≡ Ok due → Openable method k n room due
  unfolding lawful_answer due_answer
  openable e =
      let e₁ = opens (key_fits method k) _ _ due e in
      let e₂ = opens (leb (overhead k) n && leb n max_datagram) _ _ due e₁.1 in
      let e₃ = opens (leb (n - overhead k) room) _ _ due e₂.1 in
      let is : n - overhead k ≡ due = ap opened_in e₃.1 in
      let bounds = (and-eq-true_iff (leb (overhead k) n) (leb n max_datagram)).0 e₂.0 in
      let space = leb-true (n - overhead k) room e₃.0 in
      record {
        fits = e₁.0;
        of-aes = (fits-sizes method k e₁.0).of-aes;
        least = leb-true (overhead k) n bounds.0;
        most = leb-true n max_datagram bounds.1;
        size = sym is;
        space = omega (arith, is, space);
      }
