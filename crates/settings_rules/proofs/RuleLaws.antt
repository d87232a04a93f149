-- What the tests of a setting say of a body: its length, and the others' part of the test.
-- Assumes nothing.
use mathlib.Core.Path.{◌≡◌}
use mathlib.Core.Bool.{Bool, true, false, ◌&&◌, and-eq-true_iff}
use mathlib.Core.List.{List}
use Prim.Native.Nat.{ℕ}
use lib.Dec.{eqb, leb}
use lib.ListN.{length}
use borrow.Author.Tests.{eqb-true, eq-eqb, ne_eqb}
use Rattle.octets.specs.Numbers.{be}
use Rattle.retention.specs.Retention.{lawful_retention}
use Rattle.socks5.specs.Address.{is_address}
use Rattle.settings_rules.specs.Rules.{is_method, lawful_method, lawful_retention_body, lawful_limit, lawful}

-- ---- bodies

module _ (b : List ℕ) where
  -- a length, and a test behind it
  pub other_length : (n : ℕ) (t : Bool) → (length b ≡ n → ⊥) → false ≡ (eqb (length b) n && t)
  other_length n t h = rw (ne_eqb (length b) n h)

  pub right-length : (n : ℕ) (t : Bool) → length b ≡ n → t ≡ (eqb (length b) n && t)
  right-length n t h = rw (eq-eqb (length b) n h)

  pub no-method : (length b ≡ 1 → ⊥) → false ≡ lawful_method b
  unfolding lawful_method
  no-method h = other_length 1 (is_method (be 1 b)) h

  pub no-retention : (length b ≡ 2 → ⊥) → false ≡ lawful_retention_body b
  unfolding lawful_retention_body
  no-retention h = other_length 2 (lawful_retention (be 2 b)) h

  pub by-retention : length b ≡ 2 → lawful_retention (be 2 b) ≡ lawful_retention_body b
  unfolding lawful_retention_body
  by-retention h = right-length 2 (lawful_retention (be 2 b)) h

  -- ---- by the number

  pub of_others : (n : ℕ) → (n ≡ 1 → ⊥) → (n ≡ 2 → ⊥) → (n ≡ 3 → ⊥) → (n ≡ 4 → ⊥) → true ≡ lawful n b
  unfolding lawful
  of_others n a c d e = rw (ne_eqb n 1 a, ne_eqb n 2 c, ne_eqb n 3 d, ne_eqb n 4 e)

  -- ---- what a lawful body has

  has-length : (n : ℕ) (t : Bool) → (eqb (length b) n && t) ≡ true → length b ≡ n
  has-length n t h = eqb-true (length b) n ((and-eq-true_iff (eqb (length b) n) t).0 h).0

  pub method-length : lawful 1 b ≡ true → length b ≡ 1
  unfolding lawful lawful_method
  method-length h = has-length 1 (is_method (be 1 b)) h

  pub retention-length : lawful 2 b ≡ true → length b ≡ 2
  unfolding lawful lawful_retention_body
  retention-length h = has-length 2 (lawful_retention (be 2 b)) h

  pub limit-length : lawful 3 b ≡ true → length b ≡ 4
  unfolding lawful lawful_limit
  limit-length h = has-length 4 (leb (be 4 b) 65507) h

  pub target-address : lawful 4 b ≡ true → is_address b ≡ true
  unfolding lawful
  target-address h = h
