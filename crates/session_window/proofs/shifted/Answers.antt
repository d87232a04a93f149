-- Moved by 256 or more there is the new mark alone; by less, each word is known.
use native.Mathlib.Omega.{arith}
use Rattle.session_window.specs.Window.{number}
use Rattle.session_window.proofs.ShiftLaws.{one-more-fits}
use Rattle.session_window.proofs.MarkLaws.{far, near}
use Rattle.session_window.proofs.shifted.Goals as goal

pub returns-then-d-ge-WINDOW : goal.returns-then-d-ge-WINDOW
returns-then-d-ge-WINDOW c = far (number c.args.marks) c.args.d c.if-d-ge-WINDOW.true

-- the first word is even
pub overflow_add-result : goal.overflow_add-result
overflow_add-result c =
    let a = c.args in
    record { fits = omega (arith, one-more-fits (number a.marks) a.d _ c.requires c.moved_word.ensures) }

pub returns : goal.returns
returns c =
    let a = c.args in
    near (number a.marks) a.d _ _ _ _ c.requires
    c.moved_word.ensures c.moved_word-2.ensures c.moved_word-3.ensures c.moved_word-4.ensures
