use mathlib.Core.Path.{◌≡◌, sym, ap, ◌∙◌}
use mathlib.Core.Bool.{Bool, true}
use mathlib.Core.List.{List}
use Prim.Native.Nat.{ℕ, ◌+◌, ◌*◌, ◌-◌, ◌≤◌}
use native.Mathlib.Omega.{arith}
use borrow.Author.Rules.{rules}
use Rattle.recording.specs.declared.Entry.{Entry}
use Rattle.recording.specs.Format.{place_of, entry, entry_at, are_good, is_good}
use Rattle.recording.proofs.EntryLaws.{good, good-step, bad-step, last_step}
use Rattle.recording.proofs.are_good.Goals as goal

-- what the callees told of an entry that was read
tested : (s : List ℕ) (i place : ℕ) (e : Entry) (b : Bool) → e ≡ entry_at s (4 + 15 * i) → b ≡ is_good e place → is_good (entry s i) place ≡ b
tested s i place e b p q = sym (ap (λ (x : Entry). is_good x place) p) ∙ sym q

pub loop-i-init : goal.loop-i-init
loop-i-init c =
    let a = c.args in
    let e : a.n - 0 ≡ a.n = omega arith in
    (search rules, ap (λ (m : ℕ). are_good a.s.now m 0 (place_of a.n)) e)

pub returns-then-not-is_good : goal.returns-then-not-is_good
returns-then-not-is_good c =
    sym (sym c.loop-i.invariant.1
    ∙ bad-step _ _ _ _ (omega arith) (tested _ _ _ _ _ c.read_entry-e.ensures c.is_good.ensures ∙ c.if-not-is_good.true))

pub loop-i-preserved : goal.loop-i-preserved
loop-i-preserved c =
    let short : c.read_entry-e.result.len ≤ 65507 = (good c.read_entry-e.result c.loop-i.place (sym c.is_good.ensures ∙ c.if-not-is_good.false)).short in
    let a = c.args in
    let found : is_good (entry a.s.now c.loop-i.i) c.loop-i.place ≡ true =
    tested _ _ _ _ _ c.read_entry-e.ensures c.is_good.ensures ∙ c.if-not-is_good.false in (
      omega (arith, short),
      ap (λ (e : Entry). are_good a.s.now (a.n - (c.loop-i.i + 1)) (c.loop-i.i + 1) (c.loop-i.place + e.len)) c.read_entry-e.ensures
          ∙ sym (good-step _ _ _ _ (omega arith) found) ∙ c.loop-i.invariant.1,
    )

pub returns : goal.returns
returns c =
    let e : c.loop-i.i ≡ c.args.n = omega arith in
    sym (last_step _ _ _) ∙ rw e at c.loop-i.invariant.1

pub overflow_add-place-in-loop-i : goal.overflow_add-place-in-loop-i
overflow_add-place-in-loop-i c =
    let short : c.read_entry-e.result.len ≤ 65507 = (good c.read_entry-e.result c.loop-i.place (sym c.is_good.ensures ∙ c.if-not-is_good.false)).short in
    record { fits = omega (arith, short) }
