-- A bit that is not set is added to its word.
use Prim.Native.Nat.{ℕ, ◌+◌, ◌*◌, ◌/◌, ◌%◌, ◌^◌}
use native.Mathlib.Omega.{arith}
use mathlib.Core.Path.{◌≡◌, ap, ◌∙◌}
use lib.ListN.{length, get_or, set}
use mir.Syntax.{w64}
use mir.Val.{Fits}
use Rattle.session_window.specs.Window.{number}
use Rattle.session_window.proofs.ShiftLaws.{one_up}
use Rattle.session_window.proofs.MarkLaws.{mark-fits, mark_set}
use borrow.Author.Rules.{rules}
use Rattle.session_window.proofs.with_mark.Goals as goal

pub overflow_add-m : goal.overflow_add-m
overflow_add-m c =
    let a = c.args in
    let fit : (i : ℕ) → Fits w64 (get_or a.marks i 0) = λ i. search rules in
    let long : length a.marks ≡ 4 = search rules in
    let one : 1 * 2 ^ (a.j % 64) % 2 ^ 64 ≡ 2 ^ (a.j % 64) = one_up (a.j % 64) (omega arith) in
    record { fits = omega (arith, mark-fits a.marks a.j long (λ i. (fit i).fits) c.requires.1) }

pub returns : goal.returns
returns c =
    let a = c.args in
    let fit : (i : ℕ) → Fits w64 (get_or a.marks i 0) = λ i. search rules in
    let long : length a.marks ≡ 4 = search rules in
    ap (λ (x : ℕ). number (set a.marks (a.j / 64) (get_or a.marks (a.j / 64) 0 + x))) (one_up (a.j % 64) (omega arith))
    ∙ mark_set a.marks a.j long (λ i. (fit i).fits) c.requires.0
