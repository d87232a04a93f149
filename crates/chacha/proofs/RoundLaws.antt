-- The double rounds, one by one.
-- Assumes nothing.
use Rattle.std.proofs.Common.{◌≡◌, ℕ, zero, suc, ◌+◌, ◌≤◌, List, length, refl, ap, ◌∙◌, add-one, arith}
use Rattle.chacha.specs.ChaCha.{doubles, double_round}
use Rattle.chacha.specs.Lanes.{lane, Each}

doubles-last : (n : ℕ) (v : List ℕ) → doubles (suc n) v ≡ double_round (doubles n v)
unfolding doubles
doubles-last zero v = refl
doubles-last (suc n) v = doubles-last n (double_round v)

-- the first m states of w are those of v after n double rounds
module _ (m n : ℕ) (v w : List ℕ) where
  pub rounds-none : length v ≡ 64 → w ≡ v → n ≡ 0 → Each m (doubles n) v w
  unfolding doubles
  rounds-none l e z = record { size = ap length e ∙ l; at = λ j h. rw z (ap (λ (x : List ℕ). lane x j) e) }

  pub rounds-more : (x : List ℕ) (k : ℕ) → m ≤ k → Each m (doubles n) v w → Each k double_round w x → Each m (doubles (n + 1)) v x
  rounds-more x k l r e =
      record { size = e.size; at = λ j h. e.at j (omega arith) ∙ ap double_round (r.at j h) ∙ rw add-one (rw (doubles-last n (lane v j)) refl) }
