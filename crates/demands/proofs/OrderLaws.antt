-- The conditions of the rules, as the definitions test them.
-- Assumes nothing.
use Rattle.std.specs.Prelude.{Option}
use mathlib.Core.Path.{◌≡◌, refl, sym, ap, ap₂, ◌∙◌}
use mathlib.Core.Bool.{Bool, true, false, cond, not, ◌&&◌, ◌||◌, or-false, and-false}
use Prim.Native.Nat.{ℕ, ◌+◌, ◌≤◌, ◌<◌}
use native.Mathlib.Omega.{arith}
use lib.Dec.{eqb, leb, ltb}
use borrow.Author.Tests.{leb-true, ltb-true, ltb-false, eqb-true, eq-eqb, ne_eqb}
use Rattle.protocol.specs.Method.{asks, key_fits, key_in, key_length, salt_length, cipher_in, cipher_of}
use Rattle.datagram_parts.specs.declared.Side.{Side}
use Rattle.datagram_parts.specs.declared.Side.TheVariants.{Client, Server}
use Rattle.datagram_parts.specs.Headers.{main_start}
use Rattle.datagram_parts.specs.Parts.{overhead, nonce_fits}
use Rattle.datagram_parts.proofs.OverheadLaws.{by_number}
use Rattle.datagram_seal.specs.Sealing.{differs}
use Rattle.protocol.proofs.OrderLaws.{not-and, under, eqb-turned}
use Rattle.demands.specs.Orders.{with_cha_cha, other_method, other_key, besides, main_at, same_ids}
use Rattle.protocol.specs.declared.Method.{Method}

-- ---- conditions

-- a number of no method
no_number : (n : ℕ) → (1 ≤ n → n ≤ 5 → ⊥) → (k : ℕ) → 1 ≤ k → k ≤ 5 → eqb n k ≡ false
no_number n f k l u = ne_eqb n k (λ e. f (omega arith) (omega arith))

no-chacha : (n : ℕ) → (1 ≤ n → n ≤ 5 → ⊥) → with_cha_cha n ≡ false
no-chacha n f =
    let e = no_number n f in
    λ i. e 3 (omega arith) (omega arith) i || (e 4 (omega arith) (omega arith) i || e 5 (omega arith) (omega arith) i)

pub other_key_lem : (method k : ℕ) → other_key method k ≡ not (key_fits method k)
unfolding key_fits
other_key_lem method k =
    by_number (λ (n : ℕ) (m : Option Method). other_key n k ≡ not (asks m k)) (ap not (or-false (eqb k 16) ∙ eqb-turned k 16)) long long long long none-asks method
  where
    long : not (eqb k 32) ≡ not (eqb 32 k)
    long = ap not (eqb-turned k 32)

    none-asks : (n : ℕ) → (1 ≤ n → n ≤ 5 → ⊥) → other_key n k ≡ true
    none-asks n f =
        let e = no_number n f in
        λ i. not (e 1 (omega arith) (omega arith) i && eqb k 16 || (e 2 (omega arith) (omega arith) i || no-chacha n f i) && eqb k 32)

pub other-method : (method : ℕ) → other_method method ≡ eqb (key_length method) 0
unfolding key_length
other-method method =
    by_number (λ (n : ℕ) (m : Option Method). other_method n ≡ eqb (key_in m) 0) refl refl refl refl refl no-method method
  where
    no-method : (n : ℕ) → (1 ≤ n → n ≤ 5 → ⊥) → other_method n ≡ true
    no-method n f =
        let e = no_number n f in
        λ i. not (e 1 (omega arith) (omega arith) i || (e 2 (omega arith) (omega arith) i || no-chacha n f i))

-- what a datagram has besides its plaintext, and where the main header starts in that
pub besides-overhead : (method : ℕ) → besides method ≡ overhead (cipher_of method)
unfolding cipher_of
besides-overhead method =
    by_number (λ (n : ℕ) (m : Option Method). besides n ≡ overhead (cipher_in m)) refl refl refl refl refl
    (λ n f. ap (λ (b : Bool). cond b 40 32) (no-chacha n f)) method

pub main-at : (method : ℕ) → main_at method ≡ main_start (cipher_of method)
unfolding cipher_of
main-at method =
    by_number (λ (n : ℕ) (m : Option Method). main_at n ≡ main_start (cipher_in m)) refl refl refl refl refl
    (λ n f. ap (λ (b : Bool). cond b 16 0) (no-chacha n f)) method

-- a nonce of another length than 24, where it is looked at
pub other-nonce : (method nonce : ℕ) → (with_cha_cha method && not (eqb nonce 24)) ≡ not (nonce_fits (cipher_of method) nonce)
unfolding cipher_of
other-nonce method nonce =
    by_number (λ (n : ℕ) (m : Option Method). (with_cha_cha n && not (eqb nonce 24)) ≡ not (nonce_fits (cipher_in m) nonce)) refl refl refl refl refl
    (λ n f. ap (λ (b : Bool). b && not (eqb nonce 24)) (no-chacha n f)) method

pub unsealable : (method k nonce : ℕ)
    → (other_key method k || with_cha_cha method && not (eqb nonce 24)) ≡ not (key_fits method k && nonce_fits (cipher_of method) nonce)
unsealable method k nonce =
    ap₂ ◌||◌ (other_key_lem method k) (other-nonce method nonce) ∙ not-and (key_fits method k) (nonce_fits (cipher_of method) nonce)

-- a key and a salt of other lengths, and a second salt
pub unsuited : (method key salt : ℕ)
    → (other_key method key || not (eqb salt (salt_length method))) ≡ not (key_fits method key && eqb salt (salt_length method))
unsuited method key salt =
    ap (λ (b : Bool). b || not (eqb salt (salt_length method))) (other_key_lem method key) ∙ not-and (key_fits method key) (eqb salt (salt_length method))

pub unsuited-both : (method key salt binding : ℕ)
    → (other_key method key || (not (eqb salt (salt_length method)) || not (eqb binding (salt_length method))))
    ≡ not ((key_fits method key && eqb salt (salt_length method)) && eqb binding salt)
unsuited-both method key salt binding =
    ap (λ (b : Bool). b || (not (eqb salt (salt_length method)) || not (eqb binding (salt_length method)))) (other_key_lem method key)
    ∙ go (key_fits method key) (eqb salt (salt_length method)) refl
  where
    go : (a b : Bool) → eqb salt (salt_length method) ≡ b
        → (not a || (not b || not (eqb binding (salt_length method)))) ≡ not ((a && b) && eqb binding salt)
    go true true e = ap (λ (n : ℕ). not (eqb binding n)) (sym (eqb-true salt (salt_length method) e))
    go true false e = refl
    go false b e = refl

-- nothing, and so no bytes in all
nothing : (a b : ℕ) → (eqb a 0 && eqb b 0) ≡ not (ltb 0 (a + b))
nothing a b = go (ltb 0 (a + b)) refl
  where
    some-there : (x y : Bool) → eqb a 0 ≡ x → eqb b 0 ≡ y → 0 < a + b → (x && y) ≡ false
    some-there true true e f h =
        absurd (let ea = eqb-true a 0 e in let eb = eqb-true b 0 f in omega arith)
    some-there true false e f h = refl
    some-there false y e f h = refl

    go : (x : Bool) → ltb 0 (a + b) ≡ x → (eqb a 0 && eqb b 0) ≡ not x
    go true e = some-there (eqb a 0) (eqb b 0) refl refl (ltb-true 0 (a + b) e)
    go false e =
        let z : a + b ≤ 0 = ltb-false 0 (a + b) e in
        let ea : a ≡ 0 = omega arith in
        let eb : b ≡ 0 = omega arith in
        ap₂ ◌&&◌ (eq-eqb a 0 ea) (eq-eqb b 0 eb)

-- padding over 900, or 0 with no payload
pub bad-padding : (padding payload : ℕ)
    → (ltb 900 padding || eqb padding 0 && eqb payload 0) ≡ not (leb padding 900 && ltb 0 (padding + payload))
bad-padding padding payload = ap₂ ◌||◌ (under 900 padding) (nothing padding payload) ∙ not-and (leb padding 900) (ltb 0 (padding + payload))

not-not : (b : Bool) → b ≡ not (not b)
not-not true = refl
not-not false = refl

pub same-ids : (side : Side) (id : ℕ) → same_ids side id ≡ not (differs side id)
same-ids Client id = refl
same-ids (Server client) id = not-not (eqb id client)

-- a variable header behind its address: no padding length, padding over 900, past the end, or 0 with no payload
bare : (l e n : ℕ) → e + 2 + n ≤ l → (eqb n 0 && eqb l (e + 2)) ≡ not (ltb (e + 2) l)
bare l e n h = go (ltb (e + 2) l) refl
  where
    go : (x : Bool) → ltb (e + 2) l ≡ x → (eqb n 0 && eqb l (e + 2)) ≡ not x
    go true f =
        let k : e + 2 < l = ltb-true (e + 2) l f in
        ap (◌&&◌ (eqb n 0)) (ne_eqb l (e + 2) (λ z. omega arith)) ∙ and-false (eqb n 0)
    go false f =
        let k : l ≤ e + 2 = ltb-false (e + 2) l f in
        let en : n ≡ 0 = omega arith in
        let el : l ≡ e + 2 = omega arith in
        ap₂ ◌&&◌ (eq-eqb n 0 en) (eq-eqb l (e + 2) el)

pub bad-behind : (l e n : ℕ)
    → (ltb l (e + 2) || (ltb 900 n || (ltb l (e + 2 + n) || eqb n 0 && eqb l (e + 2))))
    ≡ not (leb (e + 2) l && (leb n 900 && (leb (e + 2 + n) l && ltb (e + 2) l)))
bad-behind l e n = go (leb (e + 2) l) (leb n 900) (leb (e + 2 + n) l) (under l (e + 2)) (under 900 n) (under l (e + 2 + n)) refl
  where
    go : (a b c : Bool) → ltb l (e + 2) ≡ not a → ltb 900 n ≡ not b → ltb l (e + 2 + n) ≡ not c → leb (e + 2 + n) l ≡ c
        → (ltb l (e + 2) || (ltb 900 n || (ltb l (e + 2 + n) || eqb n 0 && eqb l (e + 2)))) ≡ not (a && (b && (c && ltb (e + 2) l)))
    go false b c ea eb ec f = λ i. ea i || (ltb 900 n || (ltb l (e + 2 + n) || eqb n 0 && eqb l (e + 2)))
    go true false c ea eb ec f = λ i. ea i || (eb i || (ltb l (e + 2 + n) || eqb n 0 && eqb l (e + 2)))
    go true true false ea eb ec f = λ i. ea i || (eb i || (ec i || eqb n 0 && eqb l (e + 2)))
    go true true true ea eb ec f = λ i. ea i || (eb i || (ec i || bare l e n (leb-true (e + 2 + n) l f) i))
