-- Decimal digits: one more digit, how many there are, and what they read back to.
-- Assumes nothing.
use mathlib.Core.Path.{◌≡◌, refl, sym, ap, subst, ◌∙◌}
use mathlib.Core.Bool.{Bool, true, false}
use mathlib.Core.List.{List, [], ◌∷◌, ◌++◌}
use Prim.Native.Nat.{ℕ, zero, suc, ◌+◌, ◌-◌, ◌*◌, ◌/◌, ◌%◌, ◌^◌, ◌≤◌, ◌<◌}
use native.Mathlib.Nat.{pow-suc}
use native.Mathlib.Omega.{arith}
use lib.Dec.{ltb, lit<}
use lib.ListN.{length, get_or, length-append}
use borrow.Author.Tests.{lt-ltb, le-ltb, ltb-true, ltb-false}
use Rattle.comparison_text.specs.Decimal.{digits, decimal, read_behind, DecimalValue}

-- ---- one more digit

digits-at : (k n : ℕ) (t : Bool) → ltb n 10 ≡ t
    → digits (suc k) n ≡ (elim t [ true ↦ (48 + n) ∷ [] | false ↦ digits k (n / 10) ++ ((48 + n % 10) ∷ []) ])
unfolding digits
digits-at k n t e = ap (λ (x : Bool). elim x [ true ↦ (48 + n) ∷ [] | false ↦ digits k (n / 10) ++ ((48 + n % 10) ∷ []) ]) e

-- more places than a number has digits change nothing
enough : (k j n : ℕ) → n < k → n < j → digits k n ≡ digits j n
enough zero j n h g = absurd (omega arith)
enough (suc k) zero n h g = absurd (omega arith)
enough (suc k) (suc j) n h g = go (ltb n 10) refl (enough k j (n / 10))
  where
    go : (t : Bool) → ltb n 10 ≡ t → (n / 10 < k → n / 10 < j → digits k (n / 10) ≡ digits j (n / 10))
        → digits (suc k) n ≡ digits (suc j) n
    go true e r = digits-at k n true e ∙ sym (digits-at j n true e)
    go false e r =
        let l : 10 ≤ n = ltb-false n 10 e in
        digits-at k n false e ∙ ap (λ (s : List ℕ). s ++ ((48 + n % 10) ∷ [])) (r (omega arith) (omega arith))
        ∙ sym (digits-at j n false e)

pub one-digit : (n : ℕ) → n < 10 → decimal n ≡ (48 + n) ∷ []
unfolding decimal
one-digit n h = digits-at n n true (lt-ltb n 10 h)

pub more-digits : (n : ℕ) → 10 ≤ n → decimal n ≡ decimal (n / 10) ++ ((48 + n % 10) ∷ [])
unfolding decimal
more-digits n h =
    digits-at n n false (le-ltb n 10 h)
    ∙ ap (λ (s : List ℕ). s ++ ((48 + n % 10) ∷ [])) (enough n (suc (n / 10)) (n / 10) (omega arith) (omega arith))

-- ---- what they read back to

read-append : (v : ℕ) (s t : List ℕ) → read_behind v (s ++ t) ≡ read_behind (read_behind v s) t
unfolding read_behind
read-append v [] t = refl
read-append v (c ∷ s) t = read-append (v * 10 + (c - 48)) s t

-- a digit behind a number
read-digit : (v : ℕ) (s : List ℕ) (x : ℕ) → read_behind v s ≡ x → (b : ℕ) → read_behind v (s ++ ((48 + b) ∷ [])) ≡ x * 10 + b
unfolding read_behind
read-digit v s x e b =
    let f : 48 + b - 48 ≡ b = omega arith in
    read-append v s ((48 + b) ∷ []) ∙ ap (λ (m : ℕ). m * 10 + (48 + b - 48)) e ∙ ap (λ (m : ℕ). x * 10 + m) f

-- what holds of all elements and of one more
all-behind : (P : ℕ → Type 0) (s : List ℕ) (c : ℕ) → ((i : ℕ) → i < length s → P (get_or s i 0)) → P c
    → (i : ℕ) → i < length (s ++ (c ∷ [])) → P (get_or (s ++ (c ∷ [])) i 0)
all-behind P [] c f p zero h = p
all-behind P [] c f p (suc i) h = absurd (omega arith)
all-behind P (x ∷ s) c f p zero h = f 0 (omega arith)
all-behind P (x ∷ s) c f p (suc i) h = all-behind P s c (λ j l. f (suc j) (omega arith)) p i (omega arith)

first-stays : (s t : List ℕ) → 0 < length s → get_or (s ++ t) 0 0 ≡ get_or s 0 0
first-stays [] t h = absurd (omega arith)
first-stays (x ∷ s) t h = refl

abbrev Digit : ℕ → Type 0
Digit c = (48 ≤ c) × (c ≤ 57)

-- a string of digits that reads back to n
record Reads (n : ℕ) (s : List ℕ) : Type 0 where
  back : read_behind 0 s ≡ n
  each : (i : ℕ) → i < length s → Digit (get_or s i 0)
  some : 0 < length s
  first : 0 < n → 49 ≤ get_or s 0 0

read_one : (n : ℕ) → read_behind 0 ((48 + n) ∷ []) ≡ n
unfolding read_behind
read_one n = let e : 0 * 10 + (48 + n - 48) ≡ n = omega arith in e

single : (n : ℕ) → n < 10 → Reads n ((48 + n) ∷ [])
single n h =
    record {
      back = read_one n;
      each = all-behind Digit [] (48 + n) (λ i l. absurd (omega arith)) (omega arith, omega arith);
      some = lit< tt;
      first = λ p. omega arith;
    }

behind : (n : ℕ) (s : List ℕ) → 10 ≤ n → Reads (n / 10) s → Reads n (s ++ ((48 + n % 10) ∷ []))
behind n s h r =
    record {
      back = read-digit 0 s (n / 10) r.back (n % 10) ∙ omega arith;
      each = all-behind Digit s (48 + n % 10) r.each (omega arith, omega arith);
      some = omega (arith, length-append s ((48 + n % 10) ∷ []));
      first = λ p. subst (λ (c : ℕ). 49 ≤ c) (sym (first-stays s ((48 + n % 10) ∷ []) r.some)) (r.first (omega arith));
    }

reads : (k n : ℕ) → n < k → Reads n (decimal n)
reads zero n h = absurd (omega arith)
reads (suc k) n h = go (ltb n 10) refl (reads k (n / 10))
  where
    go : (t : Bool) → ltb n 10 ≡ t → (n / 10 < k → Reads (n / 10) (decimal (n / 10))) → Reads n (decimal n)
    go true e r = let l : n < 10 = ltb-true n 10 e in subst (Reads n) (sym (one-digit n l)) (single n l)
    go false e r =
        let l : 10 ≤ n = ltb-false n 10 e in
        subst (Reads n) (sym (more-digits n l)) (behind n (decimal (n / 10)) l (r (omega arith)))

pub decimal-value : (n : ℕ) → DecimalValue n
decimal-value n =
    let r = reads (suc n) n (omega arith) in
    record {
      reads-back = r.back;
      each-digit = r.each;
      no-leading-zero = r.first;
      of_zero = λ e. ap decimal e ∙ one-digit 0 (lit< tt);
    }

-- ---- how many there are

pub short : (k n : ℕ) → n < 10 ^ suc k → length (decimal n) ≤ suc k
short zero n h = let e : length (decimal n) ≡ 1 = ap length (one-digit n h) in omega arith
short (suc k) n h = go (ltb n 10) refl (short k (n / 10))
  where
    go : (t : Bool) → ltb n 10 ≡ t → (n / 10 < 10 ^ suc k → length (decimal (n / 10)) ≤ suc k) → length (decimal n) ≤ suc (suc k)
    go true e r = let f : length (decimal n) ≡ 1 = ap length (one-digit n (ltb-true n 10 e)) in omega arith
    go false e r =
        let d = (48 + n % 10) ∷ [] in
        let f : length (decimal n) ≡ length (decimal (n / 10) ++ d) = ap length (more-digits n (ltb-false n 10 e)) in
        omega (arith, f, length-append (decimal (n / 10)) d, r (low (10 ^ suc k) (rw pow-suc at h)))
      where
        low : (p : ℕ) → n < p * 10 → n / 10 < p
        low p l = omega arith

-- of a number of 16 bits
pub five : (n : ℕ) → n < 65536 → length (decimal n) ≤ 5
five n h = short 4 n (let l : n < 100000 = omega arith in l)
