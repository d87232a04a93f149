-- A salt written into the pool: the words of its record, and every other word as it was. Assumes nothing.
use Prim.Native.Nat.{ℕ, ◌+◌, ◌≤◌, ◌<◌}
use native.Mathlib.Nat.{add-zero}
use native.Mathlib.Omega.{arith}
use mathlib.Core.Bool.{Bool, true, false, ◌&&◌, ◌||◌, or-true}
use mathlib.Core.List.{List, ◌∷◌}
use mathlib.Core.Logic.{◌≢◌}
use mathlib.Core.Path.{◌≡◌, refl, sym, ap, ap₂, ◌∙◌}
use lib.Dec.{leb, ltb, eqb}
use lib.ListN.{length, get_or}
use lib.Seq.{length-sets}
use borrow.Author.Tests.{eq-eqb, le-leb, ltb-true, ltb-false}
use Rattle.records.specs.Records.{current}
use Rattle.records.proofs.WordLaws.{sets-before, sets-after, sets-in}
use Rattle.salt_pool.specs.Pool.{capacity, keep_time, record_words, pool_words, start, lawful, salt_word, salt_words, kept, same_salt, store}
use Rattle.salt_pool.specs.Runs.{Keeps}

-- ---- Booleans

-- ---- a stored salt

module _ (t : List ℕ) (i clock : ℕ) (salt : List ℕ) where
  pub length-store : length (store t i clock salt) ≡ length t
  unfolding store
  length-store = length-sets t (start i) (1 ∷ clock ∷ salt_words salt)

  word-before : (x : ℕ) → x < start i → get_or (store t i clock salt) x 0 ≡ get_or t x 0
  unfolding store
  word-before x l = sets-before (1 ∷ clock ∷ salt_words salt) t (start i) x l

  word-behind : (x : ℕ) → start i + record_words ≤ x → get_or (store t i clock salt) x 0 ≡ get_or t x 0
  unfolding store
  word-behind x l = sets-after (1 ∷ clock ∷ salt_words salt) t (start i) x l

  -- a word outside of record i
  pub frame : (x : ℕ) → (start i ≤ x → x < start i + record_words → ⊥) → get_or (store t i clock salt) x 0 ≡ get_or t x 0
  frame x out = go (ltb x (start i)) refl (ltb x (start i + record_words)) refl
    where
      go : (b : Bool) → ltb x (start i) ≡ b → (d : Bool) → ltb x (start i + record_words) ≡ d → get_or (store t i clock salt) x 0 ≡ get_or t x 0
      go true e d f = word-before x (ltb-true x (start i) e)
      go false e true f = absurd (out (ltb-false x (start i) e) (ltb-true x (start i + record_words) f))
      go false e false f = word-behind x (ltb-false x (start i + record_words) f)

  -- the length and the method stay
  pub lawful-store : (method : ℕ) → lawful (store t i clock salt) method ≡ lawful t method
  lawful-store method = ap₂ (λ (n m : ℕ). eqb n pool_words && eqb m method) length-store (frame 0 (λ l u. omega arith))

  -- ---- another record

  module _ (j : ℕ) (n : j ≢ i) where
    other : (k : ℕ) → k < record_words → get_or (store t i clock salt) (start j + k) 0 ≡ get_or t (start j + k) 0
    other k h = frame (start j + k) (λ l u. n (omega arith))

    other-0 : get_or (store t i clock salt) (start j) 0 ≡ get_or t (start j) 0
    other-0 = frame (start j) (λ l u. n (omega arith))

    pub kept-other : (c : ℕ) → kept (store t i clock salt) c j ≡ kept t c j
    unfolding kept
    kept-other c = ap₂ (λ (used time : ℕ). current keep_time c used time) other-0 (other 1 (omega arith))

    pub salt-other : (w : List ℕ) (m : ℕ) → same_salt w m (store t i clock salt) j ≡ same_salt w m t j
    unfolding same_salt
    salt-other w m = λ k.
        (eqb (other 2 (omega arith) k) (get_or w 0 0) && eqb (other 3 (omega arith) k) (get_or w 1 0))
        && (leb m 16 || (eqb (other 4 (omega arith) k) (get_or w 2 0) && eqb (other 5 (omega arith) k) (get_or w 3 0)))

  -- ---- the record itself

  module _ (l : i < capacity) (e : length t ≡ pool_words) where
    pub word : (k : ℕ) → k < record_words → get_or (store t i clock salt) (start i + k) 0 ≡ get_or (1 ∷ clock ∷ salt_words salt) k 0
    unfolding store
    word k h = sets-in (1 ∷ clock ∷ salt_words salt) t (start i) k h (omega arith)

    word-0 : get_or (store t i clock salt) (start i) 0 ≡ 1
    word-0 = ap (λ (n : ℕ). get_or (store t i clock salt) n 0) (sym (add-zero (start i))) ∙ word 0 (omega arith)

    kept-itself : (c : ℕ) → c ≤ clock + keep_time → kept (store t i clock salt) c i ≡ true
    unfolding kept
    kept-itself c h =
        ap₂ (λ (used time : ℕ). current keep_time c used time) word-0 (word 1 (omega arith)) ∙ le-leb c (clock + keep_time) h

    is : (k : ℕ) → k < record_words → (v : ℕ) → get_or (1 ∷ clock ∷ salt_words salt) k 0 ≡ v → eqb (get_or (store t i clock salt) (start i + k) 0) v ≡ true
    is k h v f = eq-eqb (get_or (store t i clock salt) (start i + k) 0) v (word k h ∙ f)

    salt-itself : same_salt (salt_words salt) (length salt) (store t i clock salt) i ≡ true
    unfolding same_salt
    salt-itself =
        (λ k. (is 2 (omega arith) (salt_word salt 0) refl k && is 3 (omega arith) (salt_word salt 1) refl k) && (leb (length salt) 16 || (is 4 (omega arith) (salt_word salt 2) refl k && is 5 (omega arith) (salt_word salt 3) refl k))) ∙ or-true (leb (length salt) 16)

    pub keeps-itself : (c : ℕ) → c ≤ clock + keep_time → Keeps (store t i clock salt) c salt i
    keeps-itself c h = (l, kept-itself c h, salt-itself)
