use mathlib.Core.Bool.{Bool, ◌&&◌}
use mathlib.Core.List.{[], ◌∷◌}
use mathlib.Core.Path.{◌≡◌, refl, ◌∙◌, sym, ap, ap₂}
use Prim.Native.Nat.{ℕ, min}
use native.Mathlib.Omega.{arith}
use borrow.Author.Rules.{rules}
use lib.Bits.{bit_or, bit_xor}
use lib.Dec.{eqb}
use lib.ListN.{length, get_or, take, length-append}
use lib.Seq.{take_all}
use Rattle.std.proofs.lemmas.Slice.Zip.{zip_turn, zip_end}
use Rattle.buffers.specs.Buffers.{same}
use Rattle.buffers.proofs.BufferLaws.{same_next, no_difference}
use Rattle.buffers.proofs.equal.Goals as goal

pub loop-x-init : goal.loop-x-init
unfolding same
loop-x-init c = refl

pub loop-x-preserved : goal.loop-x-preserved
loop-x-preserved c =
    let s = c.args.a.now in
    let t = c.args.b.now in
    let l = c.loop-x in
    let i = length l.yielded in
    let x = get_or s i 0 in
    let y = get_or t i 0 in
    let turn = zip_turn s t l.yielded _ _ c.next.new.self _ (search rules) (search rules) l.yielded_by _ c.in-Some.is c.next.ensures.steps in
    ap₂ (λ (a b : ℕ). eqb (bit_or l.differ (bit_xor a b)) 0) (turn.2 0) (turn.3 0)
    ∙ no_difference l.differ x y ∙ ap (λ (p : Bool). p && eqb x y) l.invariant ∙ sym (same_next s t i turn.0 turn.1)
    ∙ ap (λ (n : ℕ). same (take n s) (take n t)) (sym (length-append l.yielded (_ ∷ [])))

pub returns : goal.returns
returns c =
    let s = c.args.a.now in
    let t = c.args.b.now in
    let l = c.loop-x in
    let n : length l.yielded ≡ min (length s) (length t) =
    zip_end s t l.yielded _ _ c.next.new.self _ (search rules) (search rules) l.yielded_by c.in-None.is c.next.ensures.steps in
    l.invariant ∙ ap₂ same (take_all _ s (omega arith)) (take_all _ t (omega arith))
