-- What a length that writing answered tells.
-- Assumes nothing.
use Rattle.std.specs.Prelude.{Err, Ok, Result}
use mathlib.Core.Path.{◌≡◌, refl, sym, ap}
use mathlib.Core.Bool.{Bool, true, false, cond}
use mathlib.Core.List.{List}
use Prim.Native.Nat.{ℕ, ◌≤◌}
use native.Mathlib.Omega.{arith}
use lib.Dec.{leb}
use lib.ListN.{length}
use borrow.Author.Tests.{leb-true}
use Rattle.protocol.specs.declared.Refusal.{Refusal}
use Rattle.settings_file.specs.Format.{max_file}
use Rattle.settings_write.specs.Writing.{given, describes, all_writable, file_length, Writable, length_answer, write_answer}

pub record Answered (ws bodies : List ℕ) (room n : ℕ) : Type 0 where
  pub writable : Writable ws bodies
  pub size : n ≡ file_length ws (length bodies)
  pub space : n ≤ room

abbrev written_in : Result ℕ Refusal → ℕ
written_in (Ok n) = n
written_in (Err r) = 0

abbrev is_written : Result ℕ Refusal → ℕ
is_written (Ok n) = 1
is_written (Err r) = 0

writes : (b : Bool) (x : Result ℕ Refusal) (r : Refusal) (n : ℕ) → cond b x (Err r) ≡ Ok n → (b ≡ true) × (x ≡ Ok n)
writes true x r n e = (refl, e)
writes false x r n e = absurd (let z : ◌≡◌ {A = ℕ} 0 1 = ap is_written e in omega arith)

pub answered : (ws bodies : List ℕ) (room n : ℕ) → write_answer ws bodies room ≡ Ok n → Answered ws bodies room n
unfolding write_answer length_answer
answered ws bodies room n e =
    let m = file_length ws (length bodies) in
    let e₁ = writes (describes ws (length bodies)) _ _ n e in
    let e₂ = writes (all_writable (given ws bodies)) _ _ n e₁.1 in
    let e₃ = writes (leb m max_file) _ _ n e₂.1 in
    let e₄ = writes (leb m room) _ _ n e₃.1 in
    let is : m ≡ n = ap written_in e₄.1 in
    let space = leb-true m room e₄.0 in
    record {
      writable = record { described = e₁.0; lawful = e₂.0; short = leb-true m max_file e₃.0 };
      size = sym is;
      space = omega (arith, is, space);
    }
