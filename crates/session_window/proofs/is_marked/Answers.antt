-- The bit is found in its word.
use Prim.Native.Nat.{ℕ}
use mathlib.Core.Path.{◌≡◌}
use lib.ListN.{length, get_or}
use mir.Syntax.{w64}
use mir.Val.{Fits}
use Rattle.session_window.proofs.MarkLaws.{bit_found}
use borrow.Author.Rules.{rules}
use Rattle.session_window.proofs.is_marked.Goals as goal

pub returns : goal.returns
returns c =
    let a = c.args in
    let fit : (i : ℕ) → Fits w64 (get_or a.marks i 0) = λ i. search rules in
    let long : length a.marks ≡ 4 = search rules in
    bit_found a.marks a.j long (λ i. (fit i).fits)
