-- Loops over the lanes.
-- Assumes nothing.
use mathlib.Core.Path.{◌≡◌, refl, sym, ap, ap₂, ◌∙◌}
use mathlib.Core.List.{List}
use Prim.Native.Nat.{ℕ, ◌+◌, ◌≤◌, ◌<◌}
use native.Mathlib.Nat.{not-suc-le-zero}
use native.Mathlib.Decide.{ℕ_discrete}
use native.Mathlib.Omega.{arith}
use lib.ListN.{length, take, drop}
use Rattle.blake3_compression.specs.declared.State.{State}
use Rattle.blake3_compression.specs.Columns.{words}
use Rattle.blake3_lanes.specs.Lanes.{lane, state, message, set_columns, Each, same, same_message}
use Rattle.blake3_lanes.proofs.LaneLaws.{columns-kept, columns-size, state-stored, message-beside, message-stored, state-beside}

-- the first j lanes of w are made of those of v, and the others as they were
pub record Changed (f g : ℕ → List ℕ → List ℕ → List ℕ) (v w : List ℕ) (j : ℕ) : Type 0 where
  pub size : length w ≡ 128
  pub states : (k : ℕ) → k < j → state w k ≡ f k (state v k) (message v k)
  pub messages : (k : ℕ) → k < j → message w k ≡ g k (state v k) (message v k)
  pub left : (k : ℕ) → j ≤ k → k < 4 → lane w k ≡ lane v k

to-state : (v w : List ℕ) (k : ℕ) → lane w k ≡ lane v k → state w k ≡ state v k
unfolding state
to-state v w k e = ap (take 16) e

to-message : (v w : List ℕ) (k : ℕ) → lane w k ≡ lane v k → message w k ≡ message v k
unfolding message
to-message v w k e = ap (drop 16) e

module _ (f g : ℕ → List ℕ → List ℕ → List ℕ) (v : List ℕ) where
  pub changed-none : length v ≡ 128 → Changed f g v v 0
  changed-none l =
      record {
        size = l;
        states = λ k h. absurd (not-suc-le-zero h);
        messages = λ k h. absurd (not-suc-le-zero h);
        left = λ k h m. refl;
      }

  pub changed-all : (w : List ℕ) (j : ℕ) → 4 ≤ j → Changed f g v w j → Each f g v w
  changed-all w j h c =
      record { size = c.size; states = λ k l. c.states k (omega arith); messages = λ k l. c.messages k (omega arith) }

  module _ (w x : List ℕ) (j : ℕ) (h : j < 4) (c : Changed f g v w j) where
    pub changed-lane : length x ≡ 128 → ((k : ℕ) → k < 4 → (k ≡ j → ⊥) → lane x k ≡ lane w k)
        → state x j ≡ f j (state w j) (message w j) → message x j ≡ g j (state w j) (message w j) → Changed f g v x (j + 1)
    changed-lane l kept es em =
        record {
          size = l;
          states = λ k m. at-state k m (ℕ_discrete k j);
          messages = λ k m. at-message k m (ℕ_discrete k j);
          left = λ k m n. kept k n (λ e. omega arith) ∙ c.left k (omega arith) n;
        }
      where
        was : lane w j ≡ lane v j
        was = c.left j (omega arith) h

        at-state : (k : ℕ) → k < j + 1 → Dec (k ≡ j) → state x k ≡ f k (state v k) (message v k)
        at-state k m (yes e) =
            ap (state x) e ∙ es ∙ ap₂ (f j) (to-state v w j was) (to-message v w j was)
            ∙ sym (ap (λ (i : ℕ). f i (state v i) (message v i)) e)
        at-state k m (no n) = to-state w x k (kept k (omega arith) n) ∙ c.states k (omega arith)

        at-message : (k : ℕ) → k < j + 1 → Dec (k ≡ j) → message x k ≡ g k (state v k) (message v k)
        at-message k m (yes e) =
            ap (message x) e ∙ em ∙ ap₂ (g j) (to-state v w j was) (to-message v w j was)
            ∙ sym (ap (λ (i : ℕ). g i (state v i) (message v i)) e)
        at-message k m (no n) = to-message w x k (kept k (omega arith) n) ∙ c.messages k (omega arith)

-- a state stored
pub changed-state : (f : ℕ → List ℕ → List ℕ → List ℕ) (v w x : List ℕ) (j : ℕ) (t : State) → j < 4 → Changed f same_message v w j
    → words t ≡ f j (state w j) (message w j) → x ≡ set_columns w 0 j t → Changed f same_message v x (j + 1)
changed-state f v w x j t h c e ex =
    changed-lane f same_message v w x j h c (columns-size w x 0 j t h c.size ex)
    (λ k m n. ap (λ (y : List ℕ). lane y k) ex ∙ columns-kept w j t h 0 k m n)
    (ap (λ (y : List ℕ). state y j) ex ∙ state-stored w j t h c.size ∙ e)
    (ap (λ (y : List ℕ). message y j) ex ∙ message-beside w j t h c.size)

-- a message stored
pub changed-message : (g : ℕ → List ℕ → List ℕ → List ℕ) (v w x : List ℕ) (j : ℕ) (t : State) → j < 4 → Changed same g v w j
    → words t ≡ g j (state w j) (message w j) → x ≡ set_columns w 16 j t → Changed same g v x (j + 1)
changed-message g v w x j t h c e ex =
    changed-lane same g v w x j h c (columns-size w x 16 j t h c.size ex)
    (λ k m n. ap (λ (y : List ℕ). lane y k) ex ∙ columns-kept w j t h 16 k m n)
    (ap (λ (y : List ℕ). state y j) ex ∙ state-beside w j t h c.size)
    (ap (λ (y : List ℕ). message y j) ex ∙ message-stored w j t h c.size ∙ e)

-- both
pub changed-both : (f g : ℕ → List ℕ → List ℕ → List ℕ) (v w y x : List ℕ) (j : ℕ) (t m : State) → j < 4 → Changed f g v w j
    → words t ≡ f j (state w j) (message w j) → words m ≡ g j (state w j) (message w j)
    → y ≡ set_columns w 0 j t → x ≡ set_columns y 16 j m → Changed f g v x (j + 1)
changed-both f g v w y x j t m h c e d ey ex =
    let l = columns-size w y 0 j t h c.size ey in
    changed-lane f g v w x j h c (columns-size y x 16 j m h l ex)
    (λ k o n. ap (λ (z : List ℕ). lane z k) ex ∙ columns-kept y j m h 16 k o n
    ∙ ap (λ (z : List ℕ). lane z k) ey ∙ columns-kept w j t h 0 k o n)
    (ap (λ (z : List ℕ). state z j) ex ∙ state-beside y j m h l ∙ ap (λ (z : List ℕ). state z j) ey ∙ state-stored w j t h c.size ∙ e)
    (ap (λ (z : List ℕ). message z j) ex ∙ message-stored y j m h l ∙ d)
