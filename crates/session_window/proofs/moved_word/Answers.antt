-- A word below the moved words is 0, the first has bits of one word, the others of two.
use Prim.Native.Nat.{ℕ, ◌+◌, ◌-◌, ◌/◌, ◌%◌}
use native.Mathlib.Omega.{arith}
use mathlib.Core.Path.{◌≡◌, refl, sym, ap, ◌∙◌}
use lib.ListN.{length, get_or}
use mir.Syntax.{w64}
use mir.Val.{Fits}
use Rattle.session_window.specs.Window.{number, word_of}
use Rattle.session_window.proofs.ShiftLaws.{moved-below, moved-first, moved-pair}
use Rattle.session_window.proofs.MarkLaws.{word_number}
use borrow.Author.Rules.{rules}
use Rattle.session_window.proofs.moved_word.Goals as goal

pub returns-then-k-w : goal.returns-then-k-w
returns-then-k-w c = sym (moved-below (number c.args.marks) _ _ (omega arith))

pub returns-then-k-w-2 : goal.returns-then-k-w-2
returns-then-k-w-2 c =
    let a = c.args in
    let fit : (i : ℕ) → Fits w64 (get_or a.marks i 0) = λ i. search rules in
    let long : length a.marks ≡ 4 = search rules in
    c.raised.ensures
    ∙ moved-first (number a.marks) a.d a.k (get_or a.marks 0 0) (a.d % 64) (omega arith) refl
    (sym (word_number a.marks long (λ i. (fit i).fits) 0))

pub returns : goal.returns
returns c =
    let a = c.args in
    let m = a.marks in
    let fit : (i : ℕ) → Fits w64 (get_or a.marks i 0) = λ i. search rules in
    let long : length a.marks ≡ 4 = search rules in
    let up : a.k - a.d / 64 - 1 + 1 ≡ a.k - a.d / 64 = omega (arith, c.if-k-w-2.false) in
    c.raised-2.ensures
    ∙ moved-pair (number m) a.d a.k (a.k - a.d / 64 - 1) (get_or m (a.k - a.d / 64 - 1) 0) (get_or m (a.k - a.d / 64) 0) (a.d % 64)
    (omega arith) refl
    (sym (word_number m long (λ i. (fit i).fits) (a.k - a.d / 64 - 1)))
    (sym (word_number m long (λ i. (fit i).fits) (a.k - a.d / 64)) ∙ ap (word_of (number m)) (sym up))
