-- A lawful pool, a made one, and what a salt meets, case by case. Assumes nothing.
use Prim.Native.Nat.{ℕ, suc, ◌*◌}
use mathlib.Core.Bool.{Bool, true, false, true≢false, cond, ◌&&◌}
use mathlib.Core.List.{List, [], ◌∷◌}
use Rattle.std.specs.Prelude.{Err, Option, Some, None, is_some}
use Rattle.std.specs.Option.{ok_or}
use Rattle.records.specs.Records.{Finds}
use mathlib.Core.Path.{◌≡◌, sym, ap, ap₂, ◌∙◌}
use lib.ListN.{length, get_or, set, replicate}
use lib.Seq.{sets}
use borrow.Author.Tests.{eq-eqb}
use Rattle.protocol.specs.declared.Method.{Method}
use Rattle.protocol.specs.Method.{method_of}
use Rattle.salt_pool.specs.Pool.{Replay, Full}
use Rattle.salt_pool.specs.Pool.{capacity, record_words, pool_words, start, known, new_pool, make_lawful, made, salt_words, salt_place, free_place, meet_by, meet, store}

-- ---- a pool and a method

module _ (t : List ℕ) (method : ℕ) where
  made-by : (m : Method) → length t ≡ pool_words → method_of method ≡ Some m → make_lawful method t ≡ true
  made-by m e f = ap₂ (λ (b : Bool) (x : Option Method). b && known x) (eq-eqb (length t) pool_words e) f

  cleared : (n : ℕ) → length t ≡ suc n → set (replicate (length t) 0) 0 method ≡ method ∷ replicate n 0
  cleared n e = ap (λ (m : ℕ). set (replicate m 0) 0 method) e

  pub is_made : (m : Method) (c : List ℕ) → length t ≡ pool_words → method_of method ≡ Some m → c ≡ replicate (length t) 0
      → set c 0 method ≡ made method t
  is_made m c e f h =
      ap (λ (x : List ℕ). set x 0 method) h ∙ cleared (capacity * record_words) e
      ∙ sym (ap (λ (b : Bool). cond b (new_pool method) t) (made-by m e f))

-- ---- what a salt meets

module _ (t : List ℕ) (clock : ℕ) (salt w : List ℕ) (f : w ≡ salt_words salt) where
  met : meet_by (salt_place t clock w (length salt)) (free_place t clock) ≡ meet t clock salt
  unfolding meet
  met = ap (λ (v : List ℕ). meet_by (salt_place t clock v (length salt)) (free_place t clock)) f

  module _ (s : Option ℕ) (h : Finds capacity (salt_place t clock w (length salt)) s) where
    pub met-replay : true ≡ is_some s → Err Replay ≡ meet t clock salt
    met-replay = go s h
      where
        go : (s : Option ℕ) → Finds capacity (salt_place t clock w (length salt)) s → true ≡ is_some s → Err Replay ≡ meet t clock salt
        go None h b = absurd (true≢false b)
        go (Some i) h b = sym (ap (λ (o : Option ℕ). meet_by o (free_place t clock)) h.1) ∙ met

    pub met-room : false ≡ is_some s → (r : Option ℕ) → Finds capacity (free_place t clock) r → ok_or r Full ≡ meet t clock salt
    met-room = go s h
      where
        go : (s : Option ℕ) → Finds capacity (salt_place t clock w (length salt)) s → false ≡ is_some s
            → (r : Option ℕ) → Finds capacity (free_place t clock) r → ok_or r Full ≡ meet t clock salt
        go (Some i) h b r g = absurd (true≢false (sym b))
        go None h b None g = sym (ap₂ meet_by h g) ∙ met
        go None h b (Some i) g = sym (ap₂ meet_by h g.1) ∙ met

-- ---- writing one

-- `w` is what the salt's words were read as, and `p` what the writing of the record left
pub is-stored : (t : List ℕ) (r clock : ℕ) (salt w p : List ℕ) → w ≡ salt_words salt
    → p ≡ sets t (start r) (1 ∷ clock ∷ get_or w 0 0 ∷ get_or w 1 0 ∷ get_or w 2 0 ∷ get_or w 3 0 ∷ []) → p ≡ store t r clock salt
unfolding store
is-stored t r clock salt w p e f =
    f ∙ ap (λ (x : List ℕ). sets t (start r) (1 ∷ clock ∷ get_or x 0 0 ∷ get_or x 1 0 ∷ get_or x 2 0 ∷ get_or x 3 0 ∷ [])) e
