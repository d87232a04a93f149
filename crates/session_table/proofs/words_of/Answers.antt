-- The four mark words are those of the number that they make.
use Prim.Native.Nat.{ℕ}
use mathlib.Core.List.{List, [], ◌∷◌, ◌++◌}
use mathlib.Core.Path.{◌≡◌, ap}
use lib.ListN.{length, get_or}
use mir.Syntax.{w64}
use mir.Val.{Fits}
use Rattle.session_window.specs.Window.{number}
use Rattle.session_window.proofs.MarkLaws.{number-list}
use borrow.Author.Rules.{rules}
use Rattle.session_table.proofs.words_of.Goals as goal

pub returns : goal.returns
unfolding number
returns c =
    let s = c.args.s in
    let fit : (i : ℕ) → Fits w64 (get_or s.marks i 0) = λ i. search rules in
    let long : length s.marks ≡ 4 = search rules in
    ap (λ (m : List ℕ). s.used ∷ s.id ∷ s.high ∷ s.last ∷ (m ++ (s.peer.first ∷ s.peer.second ∷ s.peer.port ∷ s.accepted ∷ s.repeats ∷ [])))
    (number-list s.marks long (λ i. (fit i).fits))
