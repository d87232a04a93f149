-- The number, and then the body, which lies within the file.
-- Assumes nothing.
use mathlib.Core.Path.{◌≡◌, ap, ◌∙◌}
use mathlib.Core.List.{List}
use Prim.Native.Nat.{ℕ, ◌+◌, ◌-◌}
use native.Mathlib.Omega.{arith}
use lib.ListN.{take, drop}
use Rattle.settings_rules.specs.Rules.{lawful}
use Rattle.settings_file.specs.declared.Entry.{Entry}
use Rattle.settings_rules.proofs.ContentsLaws.{too-low, by-body}
use Rattle.settings_file.specs.Format.{entry, body, contents_of}
use Rattle.settings_file.proofs.RowLaws.{body-within}
use Rattle.settings_file.proofs.is_lawful_at.Goals as goal

-- the part that is lent is the body
part : (s : List ℕ) (i : ℕ) (e : Entry) → e ≡ entry s i
    → lawful e.number (take (e.offset + e.len - e.offset) (drop e.offset s)) ≡ lawful (entry s i).number (body s i)
unfolding body
part s i e p =
    let n : e.offset + e.len - e.offset ≡ e.len = omega arith in
    ap (λ (m : ℕ). lawful e.number (take m (drop e.offset s))) n
    ∙ ap (λ (x : Entry). lawful x.number (take x.len (drop x.offset s))) p

pub returns-then-e-least : goal.returns-then-e-least
returns-then-e-least c =
    let a = c.args in
    too-low (contents_of a.s.now) a.i a.least (omega (arith, ap (λ (e : Entry). e.number) c.requires.e_value))

pub returns : goal.returns
returns c =
    let a = c.args in
    c.is_lawful.ensures ∙ part a.s.now a.i a.e c.requires.e_value
    ∙ by-body (contents_of a.s.now) a.i a.least (omega (arith, ap (λ (e : Entry). e.number) c.requires.e_value))

pub slice_bounds-is_lawful-end : goal.slice_bounds-is_lawful-end
slice_bounds-is_lawful-end c =
    omega (
      arith,
      body-within c.args.s.now c.requires.in_row c.args.i c.requires.i_bound,
      ap (λ (x : Entry). x.offset) c.requires.e_value,
      ap (λ (x : Entry). x.len) c.requires.e_value,
    )
