use mathlib.Core.Path.{◌≡◌, sym, ap, ◌∙◌}
use Prim.Native.Nat.{ℕ, ◌+◌, ◌-◌}
use native.Mathlib.Omega.{arith}
use Rattle.settings_rules.specs.Contents.{are_lawful}
use Rattle.settings_file.specs.declared.Entry.{Entry}
use Rattle.settings_rules.proofs.ContentsLaws.{lawful-one, unlawful-one, none_left}
use Rattle.settings_file.specs.Format.{contents_of}
use Rattle.settings_file.proofs.are_lawful.Goals as goal

pub loop-i-init : goal.loop-i-init
loop-i-init c =
    let a = c.args in
    let e : c.count-n.result - 0 ≡ c.count-n.result = omega arith in
    ap (λ (m : ℕ). are_lawful (contents_of a.s.now) m 0 0) (e ∙ c.count-n.ensures)

pub returns-then-not-is_lawful_at : goal.returns-then-not-is_lawful_at
returns-then-not-is_lawful_at c =
    let a = c.args in
    sym (sym c.loop-i.invariant
    ∙ unlawful-one (contents_of a.s.now) _ _ _ (omega arith) (sym c.is_lawful_at.ensures ∙ c.if-not-is_lawful_at.true))

pub loop-i-preserved : goal.loop-i-preserved
loop-i-preserved c =
    let a = c.args in
    ap (λ (e : Entry). are_lawful (contents_of a.s.now) (c.count-n.result - (c.loop-i.i + 1)) (c.loop-i.i + 1) (e.number + 1)) c.read_entry-e.ensures
    ∙ sym (lawful-one (contents_of a.s.now) _ _ _ (omega arith) (sym c.is_lawful_at.ensures ∙ c.if-not-is_lawful_at.false))
    ∙ c.loop-i.invariant

pub returns : goal.returns
returns c =
    let a = c.args in
    sym (sym c.loop-i.invariant ∙ none_left (contents_of a.s.now) _ _ _ (omega arith))
