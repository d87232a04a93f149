-- `comparison::difference_at` meets its contract: a well-formed recording has its entries and bodies.
-- Assumes nothing.
use mathlib.Core.Path.{◌≡◌, sym, ap, subst, ◌∙◌}
use mathlib.Core.Bool.{true}
use mathlib.Core.List.{List}
use Prim.Native.Nat.{ℕ, ◌+◌, ◌*◌, ◌≤◌, ◌<◌}
use native.Mathlib.Omega.{arith}
use lib.ListN.{length}
use Rattle.recording.specs.declared.Entry.{Entry}
use Rattle.recording.specs.Format.{count, entry_at, is_well_formed}
use Rattle.recording.proofs.WellFormedLaws.{body-within, entry-within}
use Rattle.comparison.specs.Differences.{between}
use Rattle.comparison.proofs.DifferenceLaws.{second-only, first-only, in-neither, in_both}
use Rattle.comparison.proofs.difference_at.Goals as goal

-- the body of an entry that was read
inside : (s : List ℕ) (i m : ℕ) → is_well_formed s ≡ true → m ≡ count s → i < m
    → (x : Entry) → x ≡ entry_at s (4 + 15 * i) → x.offset + x.len ≤ length s
inside s i m w e l x p = subst (λ (y : Entry). y.offset + y.len ≤ length s) (sym p) (body-within s i w (omega arith))

same : (a : List ℕ) (e e' : Entry) (b : List ℕ) (f f' : Entry) → e ≡ e' → f ≡ f' → between a e b f ≡ between a e' b f'
same a e e' b f f' p q = ap (λ (x : Entry). between a x b f) p ∙ ap (between a e' b) q

pub returns-in-true-false : goal.returns-in-true-false
returns-in-true-false c = first-only _ _ _ (omega arith) (omega arith)

pub returns-in-false-true : goal.returns-in-false-true
returns-in-false-true c = second-only _ _ _ (omega arith) (omega arith)

pub returns-in-false-false : goal.returns-in-false-false
returns-in-false-false c = in-neither _ _ _ (omega arith) (omega arith)

pub of_entries-requires : goal.of_entries-requires
of_entries-requires c = (
  inside _ _ _ c.requires.0 c.count-m.ensures (omega arith) _ c.read_entry-e.ensures,
  inside _ _ _ c.requires.1 c.count-n.ensures (omega arith) _ c.read_entry-f.ensures,
)

pub returns-in-true-true : goal.returns-in-true-true
returns-in-true-true c =
    c.of_entries.ensures
    ∙ same _ _ _ _ _ _ c.read_entry-e.ensures c.read_entry-f.ensures
    ∙ in_both _ _ _ (omega arith) (omega arith)

pub read_entry-e-requires : goal.read_entry-e-requires
read_entry-e-requires c = (entry-within _ c.args.i c.requires.0 (omega arith)).0

pub read_entry-f-requires : goal.read_entry-f-requires
read_entry-f-requires c = (entry-within _ c.args.i c.requires.1 (omega arith)).0
