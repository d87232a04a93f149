use mathlib.Core.Path.{ap, ◌∙◌, subst}
use Prim.Native.Nat.{ℕ}
use native.Mathlib.Omega.{arith}
use lib.Bits.{xor_zero_r}
use lib.Dec.{lit<}
use Rattle.octets.specs.Numbers.{to_be}
use Rattle.ghash.specs.Field.{mul}
use Rattle.ghash.specs.Table.{TableFor, key_in}
use Rattle.ghash.specs.Words.{block_of}
use Rattle.ghash.proofs.GhashLaws.{ghash-block}
use Rattle.ghash_four.proofs.FourLaws.{words-block}
use Rattle.ghash_four.proofs.write_next.Goals as goal

pub returns : goal.returns
unfolding to_be
returns c =
    let h = c.args.h in
    let k = key_in c.args.t.now in
    let e = c.ghash_from-p.ensures ∙ ghash-block k (block_of h) 0 (lit< tt) ∙ ap (λ (x : ℕ). mul x k) (xor_zero_r (block_of h)) in record { result_value = e; table_for_2 = subst (TableFor _) e c.write_table.ensures; block = words-block h.hi h.lo (omega (arith, c.well_formed)) (omega (arith, c.well_formed)) }
