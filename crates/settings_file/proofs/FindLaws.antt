-- What a search over the settings of a file finds.
-- Assumes nothing.
use Rattle.std.specs.Prelude.{None, Option, Some, MatchOption, IfSome}
use mathlib.Core.Path.{◌≡◌, sym, ap, ◌∙◌}
use mathlib.Core.Bool.{Bool, true, false}
use mathlib.Core.List.{List}
use Prim.Native.Nat.{ℕ, ◌≤◌, ◌<◌}
use native.Mathlib.Omega.{arith}
use lib.Dec.{eqb}
use Rattle.records.specs.Records.{lowest_from}
use Rattle.records.proofs.SearchLaws.{from_at, from-none}
use Rattle.settings_rules.specs.Rules.{is_unknown}
use Rattle.settings_rules.specs.Contents.{index_of, first_unknown}
use Rattle.settings_file.specs.Format.{count, entry, contents_of}

-- the first number below n that passes, or none, as a search over a range tells it
abbrev pub First : (ℕ → Bool) → ℕ → Option ℕ → Type 0
First test n r =
    MatchOption r ((k : ℕ) → 0 ≤ k → k < n → test k ≡ false)
    (λ i. (0 ≤ i) × (i < n) × (test i ≡ true) × ((k : ℕ) → 0 ≤ k → k < i → test k ≡ false))

is-lowest : (test : ℕ → Bool) (n : ℕ) (r : Option ℕ) → First test n r → r ≡ lowest_from test 0 n
is-lowest test n None h = sym (from-none test 0 n (λ k p q. h k p (omega arith)))
is-lowest test n (Some i) h = sym (from_at test 0 n i h.0 (omega (arith, h.1)) h.3 h.2)

pub first-bound : (test : ℕ → Bool) (n : ℕ) (r : Option ℕ) → First test n r → n < 65536 → IfSome r (λ i. i < 65536)
first-bound test n None h l = tt
first-bound test n (Some i) h l = omega (arith, h.1)

module _ (s : List ℕ) (n : ℕ) (r : Option ℕ) (e : n ≡ count s) where
  pub first-index : (k : ℕ) → First (λ i. eqb (entry s i).number k) n r → r ≡ index_of (contents_of s) k
  unfolding index_of
  first-index k h =
      is-lowest (λ i. eqb (entry s i).number k) n r h ∙ ap (lowest_from (λ i. eqb (entry s i).number k) 0) e

  pub first-unknown : First (λ i. is_unknown (entry s i).number) n r → r ≡ first_unknown (contents_of s)
  unfolding first_unknown
  first-unknown h =
      is-lowest (λ i. is_unknown (entry s i).number) n r h ∙ ap (lowest_from (λ i. is_unknown (entry s i).number) 0) e
