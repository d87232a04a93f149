use mathlib.Core.Path.{◌≡◌, refl, ap, ◌∙◌}
use mathlib.Core.List.{List}
use Prim.Native.Nat.{ℕ, ◌+◌, ◌*◌, ◌/◌, ◌≤◌}
use native.Mathlib.Omega.{arith}
use lib.ListN.{length, drop}
use Rattle.octets.proofs.BufferLaws.{rest}
use Rattle.ghash.specs.Ghash.{blocks, ghash_from}
use Rattle.ghash.specs.Table.{key_in}
use Rattle.ghash.specs.Words.{block_of}
use Rattle.ghash_four.proofs.FourLaws.{four-tables, step-law}
use borrow.Author.Rules.{rules}
use Rattle.ghash_four.proofs.by_four.Goals as goal

pub loop-i-init : goal.loop-i-init
loop-i-init c = (omega arith, refl)

pub loop-i-preserved : goal.loop-i-preserved
loop-i-preserved c =
    let a = c.args in
    let i = c.loop-i.i in
    let within : 64 * i + 64 ≤ length a.s.now = omega arith in
    (omega arith, step-law _ _ _ _ a.s.now (block_of c.loop-i.z) _ i c.write_powers.ensures.block within c.write_powers.ensures.table_for_4 c.write_powers.ensures.table_for_3 c.write_powers.ensures.table_for_2 c.step-z.ensures ∙ c.loop-i.invariant.1)

pub returns : goal.returns
returns c =
    let a = c.args in
    let s = c.args.s.now in
    let h = key_in a.t.now in
    let i = c.loop-i.i in
    let e : length s / 64 ≡ i = omega arith in
    c.ghash_from.ensures
    ∙ ap (λ (x : List ℕ). ghash_from h (block_of c.loop-i.z) (blocks x)) (rest s (64 * (length s / 64)) ∙ ap (λ (k : ℕ). drop (64 * k) s) e)
    ∙ c.loop-i.invariant.1

pub write_powers-requires : goal.write_powers-requires
write_powers-requires c = record { t4_len = search rules; t3_len = search rules; t2_len = search rules; table_for = c.requires }

pub invariant_of-p : goal.invariant_of-p
invariant_of-p c = record { four = four-tables _ _ _ _ _ _ _ c.write_powers.ensures.table_for_4 c.write_powers.ensures.table_for_3 c.write_powers.ensures.table_for_2 c.requires }
