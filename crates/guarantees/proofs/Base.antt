-- What every call's proof shares: its cases, and a call that leaves all that it was lent where it refuses.
-- Assumes nothing.
use mathlib.Core.Path.{◌≡◌, refl, sym, ap, ◌∙◌}
use mathlib.Core.Logic.{◌≢◌}
use mathlib.Core.Bool.{Bool, true, false, cond, ◌&&◌, ◌||◌, or-true, true≢false, and-eq-true_iff}
use mathlib.Core.List.{List, [], ◌∷◌}
use Prim.Native.Nat.{ℕ, ◌+◌, ◌≤◌}
use native.Mathlib.Omega.{arith}
use lib.Dec.{eqb}
use lib.ListN.{length, get_or, set, drop}
use lib.Seq.{get_or-set_same}
use borrow.Author.Tests.{eqb-true}
use Rattle.octets.specs.Buffers.{put}
use Rattle.octets.proofs.BufferLaws.{length-put, drop-put}
use Rattle.protocol.specs.Orders.{among}
use Rattle.guarantees.specs.Calls.{Lent, Role, nothing, makes-table, opens-datagram, makes-pool, opens-front, says, verdict}
use Rattle.guarantees.specs.Guarantees.{Repeated, Ends}

-- ---- cases

pub either : {A : Type 0} (P : A → Type 0) (b : Bool) (x y : A) → (b ≡ true → P x) → (b ≡ false → P y) → P (cond b x y)
either P true x y f g = f refl
either P false x y f g = g refl

pub never : {n : ℕ} {A : Type 0} → n ≢ n → A
never e = absurd (e refl)

-- what is listed is listed behind 0
pub listed-too : (ns : List ℕ) (n : ℕ) → among ns n ≡ true → among (0 ∷ ns) n ≡ true
listed-too ns n e = ap (◌||◌ (eqb n 0)) e ∙ or-true (eqb n 0)

-- and so is what a list has whose numbers are all listed
abbrev pub all_in : List ℕ → List ℕ → Bool
all_in [] ns = true
all_in (k ∷ ks) ns = among ns k && all_in ks ns

pub list-in : (ks ns : List ℕ) (n : ℕ) → all_in ks ns ≡ true → among ks n ≡ true → among ns n ≡ true
list-in [] ns n a e = absurd (true≢false (sym e))
list-in (k ∷ ks) ns n a e = go (eqb n k) refl e ((and-eq-true_iff (among ns k) _).0 a) (list-in ks ns n)
  where
    go : (b : Bool) → eqb n k ≡ b → (b || among ks n) ≡ true → (among ns k ≡ true) × (all_in ks ns ≡ true)
        → (all_in ks ns ≡ true → among ks n ≡ true → among ns n ≡ true) → among ns n ≡ true
    go true f g h rest = ap (among ns) (eqb-true n k f) ∙ h.0
    go false f g h rest = rest h.1 g

pub listed-so : (ks ns : List ℕ) (n : ℕ) → all_in ks ns ≡ true → among ks n ≡ true → among (0 ∷ ns) n ≡ true
listed-so ks ns n a e = listed-too ns n (list-in ks ns n a e)

-- ---- a buffer that a text was written to

pub written : (out text : List ℕ) (n : ℕ) → length text ≡ n → n ≤ length out → (drop n (put out 0 text) ≡ drop n out) × (length (put out 0 text) ≡ length out)
written out text n e l =
    let z : n ≡ 0 + length text = omega (arith, e) in (
      ap (λ (k : ℕ). drop k (put out 0 text)) z ∙ drop-put out 0 text (omega (arith, e, l)) ∙ ap (λ (k : ℕ). drop k out) (sym z),
      length-put out 0 text (omega (arith, e, l)),
    )

-- the first word of an answer of nine
pub first_word : (answer : List ℕ) (n : ℕ) → length answer ≡ 9 → get_or (set answer 0 n) 0 0 ≡ n
first_word answer n e = get_or-set_same answer 0 n 0 (omega (arith, e))

pub length-nine : (answer : List ℕ) → eqb (length answer) 9 ≡ true → length answer ≡ 9
length-nine answer e = eqb-true (length answer) 9 e

-- ---- what is said of a call that leaves everything where it refuses

-- a call that opens no datagram
abbrev pub Quiet : Role → Type 0
Quiet nothing = Unit {0}
Quiet makes-table = Unit {0}
Quiet (opens-datagram o) = ⊥
Quiet makes-pool = Unit {0}
Quiet (opens-front f) = Unit {0}

pub table_same : (r : Role) → Quiet r → (t t' : List ℕ) → t' ≡ t → Repeated r t t'
table_same nothing q t t' e = e
table_same makes-table q t t' e = e
table_same (opens-datagram o) q t t' e = absurd q
table_same makes-pool q t t' e = e
table_same (opens-front f) q t t' e = e

pub unlisted : (ns : List ℕ) (n k : ℕ) → among (0 ∷ ns) n ≡ true → among (0 ∷ ns) k ≡ false → n ≢ k
unlisted ns n k e f g = true≢false (sym e ∙ ap (among (0 ∷ ns)) g ∙ f)

module _ (ns : List ℕ) (r : Role) (q : Quiet r) (d : ℕ) (m : Lent) (no-10 : among (0 ∷ ns) 10 ≡ false) (no-15 : among (0 ∷ ns) 15 ≡ false) where
  pub quiet : (n : ℕ) (l : Lent) → among (0 ∷ ns) n ≡ true → (n ≢ 0 → l ≡ m) → drop d l.out ≡ drop d m.out → length l.out ≡ length m.out
      → Ends m (says ns r n l d)
  quiet n l e same past size = record {
    listed = e;
    refused = λ z. let p = same z in record {
      table_kept = λ g. ap (λ (y : Lent). y.table) p;
      repeat-counted = λ g. table_same r q m.table l.table (ap (λ (y : Lent). y.table) p);
      pool-kept = ap (λ (y : Lent). y.pool) p;
      session-kept = ap (λ (y : Lent). y.session) p;
      words-kept = ap (λ (y : Lent). y.words) p;
      stream-left = ap (λ (y : Lent). y.stream) p;
      out-left = ap (λ (y : Lent). y.out) p;
      behind-tag = λ g. absurd (true≢false (sym g));
      answer-kept = λ g h. ap (λ (y : Lent). y.answer) p;
      wanted-told = λ g. absurd (unlisted ns n 10 e no-10 g);
      setting-told = λ g. absurd (unlisted ns n 15 e no-15 g);
    };
    past-due-kept = past;
    length-kept = size;
  }

  -- a refusal, and what is accepted
  pub keeps : (n : ℕ) → among (0 ∷ ns) n ≡ true → Ends m (says ns r n m d)
  keeps n e = quiet n m e (λ z. refl) refl refl

  pub accepts : (l : Lent) → drop d l.out ≡ drop d m.out → length l.out ≡ length m.out → Ends m (says ns r 0 l d)
  accepts l past size = quiet 0 l refl (λ z. never z) past size

-- a verdict that no refusal is given behind
pub judged : (b : Bool) (ns : List ℕ) (r : Role) (d : ℕ) (m : Lent) (n : ℕ) (l : Lent) → Ends m (says ns r n l d) → Ends m (verdict b (says ns r n l d))
judged b ns r d m n l k = record {
  listed = k.listed;
  refused = λ z. let q = k.refused z in record {
    table_kept = q.table_kept;
    repeat-counted = q.repeat-counted;
    pool-kept = q.pool-kept;
    session-kept = q.session-kept;
    words-kept = q.words-kept;
    stream-left = q.stream-left;
    out-left = q.out-left;
    behind-tag = λ g. absurd (true≢false (sym g));
    answer-kept = q.answer-kept;
    wanted-told = q.wanted-told;
    setting-told = q.setting-told;
  };
  past-due-kept = k.past-due-kept;
  length-kept = k.length-kept;
}
