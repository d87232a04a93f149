use mathlib.Core.Path.{refl}
use Prim.Native.Nat.{◌+◌, ◌<◌}
use native.Mathlib.Omega.{arith}
use borrow.Author.Rules.{rules}
use lib.ListN.{length, length-set}
use Rattle.aes.specs.KeyExpansion.{key_words}
use Rattle.aes.proofs.KeyLaws.{zeros-none, zeros-behind, same-group, next-group, key-law, next-law, start-law, end-law}
use Rattle.aes.proofs.key.expand.Goals as goal
use Rattle.aes.proofs.key.expand.Goals.{then-at-nk, else-at-nk}

pub loop-i-init : goal.loop-i-init
unfolding key_words
loop-i-init c = (refl, refl, zeros-none)

pub loop-i-preserved : goal.loop-i-preserved
loop-i-preserved c = (
  simp length-set (omega arith),
  key-law _ _ _ _ (search rules) c.loop-i.invariant.1 c.pack.ensures,
  zeros-behind _ _ _ _ (omega arith) c.loop-i.invariant.2,
)

pub loop-n-init : goal.loop-n-init
loop-n-init c = (search rules, search rules, start-law _ _ _ c.loop-i.i (search rules) c.loop-i.invariant.1 c.loop-i.invariant.2)

pub loop-n-preserved : goal.loop-n-preserved
loop-n-preserved c =
    let v = c.loop-n.invariant.2 in
    let size = c.loop-n.invariant.1 in
    let fits : c.args.nk + c.loop-n.n < length c.loop-n.w = omega (arith, c.requires.nk_bound, size) in
    let k = c.temp-x.ensures.constant_value in (
      search rules,
      simp length-set (omega arith),
      next-law _ _ _ _ _ _ _ v fits (search rules) _ _ _ c.temp-x.ensures.by_index
          (elim c.if-at-nk.branch [
            | then-at-nk w ↦ rw w.at-is (next-group _ _ _ _ v.place _ k w.if-at-nk.true)
            | else-at-nk w ↦ rw w.at-is (same-group _ _ _ _ v.place _ k)
          ]),
    )

pub returns-clause-result_value : goal.returns-clause-result_value
returns-clause-result_value c = (end-law _ _ _ c.loop-n.n _ _ _ (search rules) c.loop-n.invariant.2).0
