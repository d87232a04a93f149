use mathlib.Core.Path.{◌≡◌, ap, ◌∙◌, subst}
use Prim.Native.Nat.{ℕ}
use Rattle.ghash.specs.Field.{mul}
use Rattle.ghash.specs.Table.{key_in}
use Rattle.ghash.specs.Words.{block_of}
use Rattle.ghash_laws.specs.Laws.{Block}
use Rattle.ghash_four.specs.Four.{power}
use Rattle.ghash_four.proofs.FourLaws.{table-for}
use Rattle.ghash_four.proofs.write_powers.Goals as goal

pub returns : goal.returns
unfolding power
returns c =
    let h = key_in c.args.t.now in
    let e1 : block_of c.key_of.result ≡ power h 0 = c.key_of.ensures in
    let e2 : block_of c.write_next-h2.result ≡ power h 1 = c.write_next-h2.ensures.result_value ∙ ap (λ (v : ℕ). mul v h) e1 in
    let e3 : block_of c.write_next-h3.result ≡ power h 2 = c.write_next-h3.ensures.result_value ∙ ap (λ (v : ℕ). mul v h) e2 in
    let block = subst Block e1 c.write_next-h2.ensures.block in record { table_for_2 = table-for h e1 c.write_next-h2.ensures.table_for_2; table_for_3 = table-for h e2 c.write_next-h3.ensures.table_for_2; table_for_4 = table-for h e3 c.write_next.ensures.table_for_2; block = block }
