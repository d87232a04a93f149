-- When a salt meets each answer. Assumes nothing.
use Prim.Native.Nat.{ℕ, ◌<◌, zero-le}
use native.Mathlib.Omega.{arith}
use mathlib.Core.Bool.{Bool, true, false, not, ◌&&◌, true≢false, and-eq-true_iff}
use mathlib.Core.List.{List}
use mathlib.Core.Path.{◌≡◌, refl, sym, ap, ap₂, ◌∙◌}
use lib.ListN.{length}
use borrow.Author.Tests.{not-true, not-false}
use Rattle.records.proofs.SearchLaws.{from_at, from-none, lowest-found, lowest-first, lowest-none}
use Rattle.salt_pool.specs.Pool.{Met}
use Rattle.std.specs.Prelude.{Ok, Err, None, Option, Some}
use Rattle.salt_pool.specs.Pool.{Replay, Full}
use Rattle.salt_pool.specs.Pool.{capacity, salt_words, kept, same_salt, salt_place, free_place, meet_by, meet}
use Rattle.salt_pool.specs.Runs.{Keeps, Unkept, LowestFree, AllKept, MeetsExactly}

-- ---- Booleans and answers

not-both : (a b : Bool) → (a ≡ true → b ≡ true → ⊥) → (a && b) ≡ false
not-both true true n = absurd (n refl refl)
not-both true false n = refl
not-both false b n = refl

is_replay : Met → Bool
is_replay (Ok i) = false
is_replay (Err Replay) = true
is_replay (Err Full) = false

is_full : Met → Bool
is_full (Ok i) = false
is_full (Err Replay) = false
is_full (Err Full) = true

room_of : Met → ℕ
room_of (Ok i) = i
room_of (Err Replay) = 0
room_of (Err Full) = 0

room-not-replay : (i : ℕ) → ◌≡◌ {A = Met} (Ok i) (Err Replay) → ⊥
unfolding is_replay
room-not-replay i e = true≢false (sym (ap is_replay e))

full-not-replay : ◌≡◌ {A = Met} (Err Full) (Err Replay) → ⊥
unfolding is_replay
full-not-replay e = true≢false (sym (ap is_replay e))

room-not-full : (i : ℕ) → ◌≡◌ {A = Met} (Ok i) (Err Full) → ⊥
unfolding is_full
room-not-full i e = true≢false (sym (ap is_full e))

same-room : (i j : ℕ) → ◌≡◌ {A = Met} (Ok i) (Ok j) → i ≡ j
unfolding room_of
same-room i j e = ap room_of e

-- ---- the two places

module _ (t : List ℕ) (clock : ℕ) where
  module _ (salt : List ℕ) where
    abbrev place : Option ℕ
    place = salt_place t clock (salt_words salt) (length salt)

    abbrev test : ℕ → Bool
    test i = kept t clock i && same_salt (salt_words salt) (length salt) t i

    place-some : (i : ℕ) → place ≡ Some i → Keeps t clock salt i
    unfolding salt_place
    place-some i e =
        let f = lowest-found test 0 capacity i e in
        let both = (and-eq-true_iff (kept t clock i) (same_salt (salt_words salt) (length salt) t i)).0 f.2 in
        (omega (arith, f.1), both.0, both.1)

    place_none : place ≡ None → Unkept t clock salt
    unfolding salt_place
    place_none e i k =
        true≢false (sym (ap₂ (λ (x y : Bool). x && y) k.1 k.2) ∙ lowest-none test 0 capacity e i zero-le (omega (arith, k.0)))

    no_place : Unkept t clock salt → place ≡ None
    unfolding salt_place
    no_place n =
        from-none test 0 capacity
        (λ k a b. not-both (kept t clock k) (same_salt (salt_words salt) (length salt) t k) (λ x y. n k (omega arith, x, y)))

  free-some : (i : ℕ) → free_place t clock ≡ Some i → LowestFree t clock i
  unfolding free_place
  free-some i e =
      let f = lowest-found (λ i. not (kept t clock i)) 0 capacity i e in (
        omega (arith, f.1),
        not-true (kept t clock i) f.2,
        λ k l. not-false (kept t clock k) (lowest-first (λ i. not (kept t clock i)) 0 capacity i e k zero-le l),
      )

  free-at : (i : ℕ) → LowestFree t clock i → free_place t clock ≡ Some i
  unfolding free_place
  free-at i f =
      from_at (λ i. not (kept t clock i)) 0 capacity i zero-le (omega (arith, f.0)) (λ k a l. ap not (f.2 k l)) (ap not f.1)

  none_free : free_place t clock ≡ None → AllKept t clock
  unfolding free_place
  none_free e i l = not-false (kept t clock i) (lowest-none (λ i. not (kept t clock i)) 0 capacity e i zero-le (omega arith))

  no-free : AllKept t clock → free_place t clock ≡ None
  unfolding free_place
  no-free f = from-none (λ i. not (kept t clock i)) 0 capacity (λ k a b. ap not (f k (omega arith)))

-- ---- what a salt meets

module _ (t : List ℕ) (clock : ℕ) (salt : List ℕ) where
  by-places : meet t clock salt ≡ meet_by (place t clock salt) (free_place t clock)
  unfolding meet
  by-places = refl

  met : (o f : Option ℕ) → place t clock salt ≡ o → free_place t clock ≡ f → meet t clock salt ≡ meet_by o f
  met o f e g = by-places ∙ ap₂ meet_by e g

  pub is-replay : (i : ℕ) → Keeps t clock salt i → meet t clock salt ≡ Err Replay
  is-replay i k = go (place t clock salt) refl
    where
      go : (o : Option ℕ) → place t clock salt ≡ o → meet t clock salt ≡ Err Replay
      go (Some j) e = met (Some j) (free_place t clock) e refl
      go None e = absurd (place_none t clock salt e i k)

  pub replay-keeps : meet t clock salt ≡ Err Replay → (i : ℕ) × Keeps t clock salt i
  replay-keeps m = go (place t clock salt) (free_place t clock) refl refl
    where
      go : (o f : Option ℕ) → place t clock salt ≡ o → free_place t clock ≡ f → (i : ℕ) × Keeps t clock salt i
      go (Some i) f e g = (i, place-some t clock salt i e)
      go None (Some j) e g = absurd (room-not-replay j (sym (met None (Some j) e g) ∙ m))
      go None None e g = absurd (full-not-replay (sym (met None None e g) ∙ m))

  pub room-free : (i : ℕ) → meet t clock salt ≡ Ok i → Unkept t clock salt × LowestFree t clock i
  room-free i m = go (place t clock salt) (free_place t clock) refl refl
    where
      go : (o f : Option ℕ) → place t clock salt ≡ o → free_place t clock ≡ f → Unkept t clock salt × LowestFree t clock i
      go (Some k) f e g = absurd (room-not-replay i (sym m ∙ met (Some k) f e g))
      go None (Some j) e g =
          let same : j ≡ i = same-room j i (sym (met None (Some j) e g) ∙ m) in
          (place_none t clock salt e, free-some t clock i (g ∙ ap Some same))
      go None None e g = absurd (room-not-full i (sym m ∙ met None None e g))

  pub full-kept : meet t clock salt ≡ Err Full → Unkept t clock salt × AllKept t clock
  full-kept m = go (place t clock salt) (free_place t clock) refl refl
    where
      go : (o f : Option ℕ) → place t clock salt ≡ o → free_place t clock ≡ f → Unkept t clock salt × AllKept t clock
      go (Some k) f e g = absurd (full-not-replay (sym m ∙ met (Some k) f e g))
      go None (Some j) e g = absurd (room-not-full j (sym (met None (Some j) e g) ∙ m))
      go None None e g = (place_none t clock salt e, none_free t clock g)

  pub meet-exactly : MeetsExactly t clock salt
  meet-exactly =
      record {
        replay = (replay-keeps, λ k. is-replay k.0 k.1);
        room = λ i. (room-free i, λ h. met None (Some i) (no_place t clock salt h.0) (free-at t clock i h.1));
        full = (full-kept, λ h. met None None (no_place t clock salt h.0) (no-free t clock h.1));
      }

  pub room-below : (i : ℕ) → meet t clock salt ≡ Ok i → i < capacity
  room-below i m = (room-free i m).1.0
