-- A well-made file: bodies in a row, numbers that rise, bodies that are lawful.
-- Assumes nothing.
use mathlib.Core.Path.{◌≡◌, sym, ap, ◌∙◌}
use mathlib.Core.Bool.{Bool, true, ◌&&◌, and-eq-true_iff}
use mathlib.Core.List.{List}
use Prim.Native.Nat.{ℕ}
use Rattle.settings_rules.specs.Contents.{all_lawful}
use Rattle.settings_rules.proofs.ContentsLaws.{lawful-says, lawful-passes}
use Rattle.settings_file.specs.Format.{contents_of, is_in_row, WellMade, is_well_made}
use Rattle.settings_file.proofs.RowLaws.{in_row, row-passes}

module _ (s : List ℕ) where
  by-settings : is_in_row s ≡ true → all_lawful (contents_of s) ≡ is_well_made s
  unfolding is_well_made
  by-settings e = sym (ap (λ (b : Bool). b && all_lawful (contents_of s)) e)

  pub well-made : is_well_made s ≡ true → WellMade s
  unfolding is_well_made
  well-made h =
      let both = (and-eq-true_iff (is_in_row s) (all_lawful (contents_of s))).0 h in
      record { in_row = in_row s both.0; lawful = lawful-says (contents_of s) both.1 }

  made-passes : WellMade s → is_well_made s ≡ true
  made-passes w = sym (by-settings (row-passes s w.in_row)) ∙ lawful-passes (contents_of s) w.lawful

  -- the test passes exactly the well-made files
  pub well-made-exactly : (is_well_made s ≡ true → WellMade s) × (WellMade s → is_well_made s ≡ true)
  well-made-exactly = (well-made, made-passes)
