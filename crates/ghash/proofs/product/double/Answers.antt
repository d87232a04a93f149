use mathlib.Core.Path.{◌∙◌}
use native.Mathlib.Omega.{arith}
use borrow.Author.Rules.{rules}
use Rattle.ghash.proofs.DoubledLaws.{making-none, making-more, making-all}
use Rattle.ghash.proofs.product.double.Goals as goal

pub loop-n-init : goal.loop-n-init
loop-n-init c = (omega arith, search rules, making-none _ _ _ _)

pub loop-n-preserved : goal.loop-n-preserved
loop-n-preserved c =
    let i = c.loop-n.invariant in
    let r = c.add-e.result in (
      omega arith,
      c.set_entry.ensures.t_len_unchanged ∙ i.1,
      making-more _ c.loop-n.t _ _ _ _ c.loop-n.n r.hi r.lo i.1 (search rules) (search rules) (omega arith) i.2 c.add-e.ensures c.set_entry.ensures.t_after,
    )

pub returns : goal.returns
returns c =
    making-all _ c.loop-n.t _ _ _ c.loop-n.n (omega arith) c.loop-n.invariant.2

pub overflow_add-from : goal.overflow_add-from
overflow_add-from c = omega arith

pub overflow_mul-from : goal.overflow_mul-from
overflow_mul-from c = omega arith

pub offset_bounds-t-from : goal.offset_bounds-t-from
offset_bounds-t-from c = omega arith

pub bounds-t-from : goal.bounds-t-from
bounds-t-from c = omega arith

pub overflow_mul-from-in-loop-n : goal.overflow_mul-from-in-loop-n
overflow_mul-from-in-loop-n c = omega arith

pub overflow_add-from-in-loop-n : goal.overflow_add-from-in-loop-n
overflow_add-from-in-loop-n c = omega arith

pub offset_bounds-t-from-in-loop-n : goal.offset_bounds-t-from-in-loop-n
offset_bounds-t-from-in-loop-n c = omega arith

pub bounds-t-from-in-loop-n : goal.bounds-t-from-in-loop-n
bounds-t-from-in-loop-n c = omega arith

pub overflow_add-at : goal.overflow_add-at
overflow_add-at c = omega arith

pub overflow_add-at-in-loop-n : goal.overflow_add-at-in-loop-n
overflow_add-at-in-loop-n c = omega arith

pub overflow_step-n : goal.overflow_step-n
overflow_step-n c = omega arith

pub loop-n-smaller : goal.loop-n-smaller
loop-n-smaller c = omega arith
