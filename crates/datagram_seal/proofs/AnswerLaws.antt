-- What sealing answers: one law for each way out, and what an answered length tells.
-- Assumes nothing.
use Rattle.std.specs.Prelude.{Err, Ok, Result, Some}
use Rattle.std.specs.Bool.{then_some}
use mathlib.Core.Path.{◌≡◌, refl, sym, ap, ap₂, ◌∙◌}
use mathlib.Core.Bool.{Bool, true, false, cond, ◌&&◌, and-eq-true_iff}
use mathlib.Core.List.{List}
use Prim.Native.Nat.{ℕ, ◌+◌, ◌-◌, ◌^◌, ◌≤◌, ◌<◌}
use native.Mathlib.Decide.{dec_le}
use native.Mathlib.Omega.{arith}
use lib.Dec.{T, eqb, leb, leb→le}
use lib.ListN.{length}
use borrow.Author.Tests.{eq-eqb, ne_eqb, le-leb, lt-leb, leb-true, eqb-false}
use Rattle.aes.specs.Keyed.{nk_of}
use Rattle.aes.proofs.KeyedLaws.{key-of-size}
use Rattle.protocol.specs.declared.Refusal.{Refusal}
use Rattle.protocol.specs.declared.Refusal.TheVariants.{Settings, Length, Room, Counter, Argument}
use Rattle.protocol.specs.declared.Cipher.{Cipher}
use Rattle.protocol.specs.Method.{key_fits, cipher_of}
use Rattle.protocol.proofs.MethodLaws.{fits-sizes}
use Rattle.socks5.specs.Address.{is_address}
use Rattle.datagram_parts.specs.declared.Side.{Side}
use Rattle.datagram_seal.specs.declared.Sender.{Sender}
use Rattle.datagram_parts.proofs.LengthLaws.{fixed-least}
use Rattle.datagram_parts.specs.Parts.{max_datagram}
use Rattle.datagram_seal.specs.Sealing.{nonce_fits, sealed_length, capped, length_answer, argument_answer, seal_answer, ids_differ, packets_of}

-- ---- the length

pub capped-within : (n : ℕ) → n ≤ max_datagram → n ≡ capped n
unfolding capped
capped-within n h = sym (ap (λ (b : Bool). cond b n 0) (le-leb n max_datagram h))

-- a length that is given is one that a datagram has
pub within : (n total : ℕ) → Some n ≡ then_some (leb total max_datagram) total → (n ≡ total) × (total ≤ max_datagram)
within n total = go (leb total max_datagram) refl
  where
    go : (b : Bool) → leb total max_datagram ≡ b → Some n ≡ then_some b total → (n ≡ total) × (total ≤ max_datagram)
    go true e f = (cc, leb-true total max_datagram e)
    go false e f = absurd cc

module _ (cipher : Cipher) (side : Side) (address padding payload : ℕ) where
  pub sealed_some : sealed_length cipher side address padding payload ≡ 0 → ⊥
  unfolding sealed_length
  sealed_some e = omega (arith, e, fixed-least side)

  pub padding-most : (n : ℕ) → n ≡ sealed_length cipher side address padding payload → n ≤ max_datagram → padding < 65536
  unfolding sealed_length
  padding-most n e h = omega arith

-- one that is not 0 is the length itself
capped_is : (n : ℕ) → (capped n ≡ 0 → ⊥) → (capped n ≡ n) × (n ≤ max_datagram)
unfolding capped
capped_is n f = go (leb n max_datagram) refl (leb→le n max_datagram) f
  where
    go : (b : Bool) → leb n max_datagram ≡ b → (T b → n ≤ max_datagram) → (cond b n 0 ≡ 0 → ⊥) → (cond b n 0 ≡ n) × (n ≤ max_datagram)
    go true e l g = (refl, l tt)
    go false e l g = absurd (g refl)

-- ---- the answer

module _ (packet n room : ℕ) where
  length-decided : (a b c : Bool) → eqb packet (2 ^ 64 - 1) ≡ a → eqb n 0 ≡ b → leb n room ≡ c
      → cond a (Err Counter) (cond b (Err Length) (cond c (Ok n) (Err Room))) ≡ length_answer packet n room
  unfolding length_answer
  length-decided a b c ea eb ec =
      λ i. cond (sym ea i) (Err Counter) (cond (sym eb i) (Err Length) (cond (sym ec i) (Ok n) (Err Room)))

  pub counter-used : packet ≡ 2 ^ 64 - 1 → Err Counter ≡ length_answer packet n room
  counter-used h = length-decided true (eqb n 0) (leb n room) (eq-eqb packet (2 ^ 64 - 1) h) refl refl

  pub no_room : (packet ≡ 2 ^ 64 - 1 → ⊥) → (n ≡ 0 → ⊥) → room < n → Err Room ≡ length_answer packet n room
  no_room f z h = length-decided false false false (ne_eqb packet (2 ^ 64 - 1) f) (ne_eqb n 0 z) (lt-leb n room h)

  pub fitting : (packet ≡ 2 ^ 64 - 1 → ⊥) → (n ≡ 0 → ⊥) → n ≤ room → Ok n ≡ length_answer packet n room
  fitting f z h = length-decided false false true (ne_eqb packet (2 ^ 64 - 1) f) (ne_eqb n 0 z) (le-leb n room h)

module _ (cipher : Cipher) (sender : Sender) (address : List ℕ) (padding payload room : ℕ) where
  argument-decided : (b : Bool) → (is_address address && ids_differ sender) ≡ b
      → cond b (length_answer sender.packet (capped (sealed_length cipher sender.side (length address) padding payload)) room) (Err Argument)
      ≡ argument_answer cipher sender address padding payload room
  unfolding argument_answer
  argument-decided b e =
      ap
      (λ (x : Bool). cond x (length_answer sender.packet (capped (sealed_length cipher sender.side (length address) padding payload)) room) (Err Argument))
      (sym e)

  pub good-argument : is_address address ≡ true → ids_differ sender ≡ true → (n : ℕ)
      → n ≡ capped (sealed_length cipher sender.side (length address) padding payload) → (r : Result ℕ Refusal) → r ≡ length_answer sender.packet n room
      → r ≡ argument_answer cipher sender address padding payload room
  good-argument e f n en r er =
      er ∙ ap (λ (m : ℕ). length_answer sender.packet m room) en ∙ argument-decided true (ap₂ ◌&&◌ e f)

module _ (method k nonce : ℕ) (sender : Sender) (address : List ℕ) (padding payload room : ℕ) where
  settings-decided : (a b : Bool) → key_fits method k ≡ a → nonce_fits (cipher_of method) nonce ≡ b
      → cond (a && b) (argument_answer (cipher_of method) sender address padding payload room) (Err Settings)
      ≡ seal_answer method k nonce sender address padding payload room
  unfolding seal_answer
  settings-decided a b ea eb =
      λ i. cond (sym ea i && sym eb i) (argument_answer (cipher_of method) sender address padding payload room) (Err Settings)

  pub unlawful-key : key_fits method k ≡ false → Err Settings ≡ seal_answer method k nonce sender address padding payload room
  unlawful-key e = settings-decided false (nonce_fits (cipher_of method) nonce) e refl

  module _ (cipher : Cipher) (ec : cipher ≡ cipher_of method) (e : key_fits method k ≡ true) where
    pub unlawful-nonce : nonce_fits cipher nonce ≡ false → Err Settings ≡ seal_answer method k nonce sender address padding payload room
    unlawful-nonce f = settings-decided true false e (ap (λ (c : Cipher). nonce_fits c nonce) (sym ec) ∙ f)

    pub lawful : nonce_fits cipher nonce ≡ true → (r : Result ℕ Refusal) → r ≡ argument_answer cipher sender address padding payload room
        → r ≡ seal_answer method k nonce sender address padding payload room
    lawful f r er =
        er ∙ ap (λ (c : Cipher). argument_answer c sender address padding payload room) ec
        ∙ settings-decided true true e (ap (λ (c : Cipher). nonce_fits c nonce) (sym ec) ∙ f)

-- ---- what a length that was answered tells

pub record Sealable (method k nonce : ℕ) (sender : Sender) (address : List ℕ) (padding payload room n : ℕ) : Type 0 where
  pub fits : key_fits method k ≡ true
  pub key : 0 < nk_of k
  pub nonce-fits : nonce_fits (cipher_of method) nonce ≡ true
  pub whole : is_address address ≡ true
  pub counter : sender.packet ≡ 2 ^ 64 - 1 → ⊥
  pub size : n ≡ sealed_length (cipher_of method) sender.side (length address) padding payload
  pub most : n ≤ max_datagram
  pub space : n ≤ room

abbrev length_of : Result ℕ Refusal → ℕ
length_of (Ok n) = n
length_of (Err r) = 0

not-refused : (r : Refusal) (n : ℕ) → Err r ≡ Ok n → ⊥
not-refused r n e = let z : ◌≡◌ {A = ℕ} 0 1 = ap packets_of e in omega arith

passed : (b : Bool) (x : Result ℕ Refusal) (r : Refusal) (n : ℕ) → cond b x (Err r) ≡ Ok n → (b ≡ true) × (x ≡ Ok n)
passed true x r n e = (refl, e)
passed false x r n e = absurd (not-refused r n e)

escaped : (b : Bool) (x : Result ℕ Refusal) (r : Refusal) (n : ℕ) → cond b (Err r) x ≡ Ok n → (b ≡ false) × (x ≡ Ok n)
escaped true x r n e = absurd (not-refused r n e)
escaped false x r n e = (refl, e)

module _ (method k nonce : ℕ) (sender : Sender) (address : List ℕ) (padding payload room n : ℕ) where
  pub sealable : seal_answer method k nonce sender address padding payload room ≡ Ok n
      → Sealable method k nonce sender address padding payload room n
  unfolding seal_answer argument_answer length_answer
  sealable e =
      let s = sealed_length (cipher_of method) sender.side (length address) padding payload in
      let e₁ = passed (key_fits method k && nonce_fits (cipher_of method) nonce) _ _ n e in
      let Lawful-both = (and-eq-true_iff (key_fits method k) (nonce_fits (cipher_of method) nonce)).0 e₁.0 in
      let e₂ = passed (is_address address && ids_differ sender) _ _ n e₁.1 in
      let e₃ = escaped (eqb sender.packet (2 ^ 64 - 1)) _ _ n e₂.1 in
      let e₄ = escaped (eqb (capped s) 0) _ _ n e₃.1 in
      let e₅ = passed (leb (capped s) room) _ _ n e₄.1 in
      let c = capped_is s (eqb-false (capped s) 0 e₄.0) in
      let is : capped s ≡ n = ap length_of e₅.1 in
      let within : capped s ≤ room = leb-true (capped s) room e₅.0 in
      record {
        fits = Lawful-both.0;
        key = key-of-size k (fits-sizes method k Lawful-both.0).either;
        nonce-fits = Lawful-both.1;
        whole = ((and-eq-true_iff (is_address address) (ids_differ sender)).0 e₂.0).0;
        counter = eqb-false sender.packet (2 ^ 64 - 1) e₃.0;
        size = sym is ∙ c.0;
        most = omega (arith, is, c.0, c.1);
        space = omega (arith, is, within);
      }

pub granted : {method k nonce : ℕ} {sender : Sender} {address : List ℕ} {padding payload room n : ℕ} {r : Result ℕ Refusal}
    → r ≡ seal_answer method k nonce sender address padding payload room → r ≡ Ok n
    → Sealable method k nonce sender address padding payload room n
granted e f = sealable _ _ _ _ _ _ _ _ _ (sym e ∙ f)

-- ---- the counter

-- where the last packet ID is not used up, there is a next
pub next-fits : (packet : ℕ) → packet < 2 ^ 64 → (packet ≡ 2 ^ 64 - 1 → ⊥) → packet + 1 < 2 ^ 64
next-fits packet h f = go (dec_le (2 ^ 64 - 1) packet)
  where
    go : Dec (2 ^ 64 - 1 ≤ packet) → packet + 1 < 2 ^ 64
    go (yes l) = absurd (f (omega arith))
    go (no l) = omega arith
