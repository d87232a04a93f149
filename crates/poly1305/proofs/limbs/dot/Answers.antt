use mathlib.Core.Path.{refl}
use native.Mathlib.Omega.{arith}
use Rattle.poly1305.proofs.PrimeLaws.{Products, products}
use Rattle.poly1305.proofs.limbs.dot.Goals as goal

pub returns : goal.returns
returns c =
    let small : (let a = c.args in Products a.h a.x0 a.x1 a.x2 a.x3 a.x4) = let a = c.args in products a.h a.x0 a.x1 a.x2 a.x3 a.x4 c.requires.below c.requires.x0_bound in
    record { upper_bound = omega (arith, small); value = refl }

pub overflow_mul-result : goal.overflow_mul-result
overflow_mul-result c =
    let small : (let a = c.args in Products a.h a.x0 a.x1 a.x2 a.x3 a.x4) = let a = c.args in products a.h a.x0 a.x1 a.x2 a.x3 a.x4 c.requires.below c.requires.x0_bound in
    omega (arith, small)

pub overflow_mul-result-2 : goal.overflow_mul-result-2
overflow_mul-result-2 c =
    let small : (let a = c.args in Products a.h a.x0 a.x1 a.x2 a.x3 a.x4) = let a = c.args in products a.h a.x0 a.x1 a.x2 a.x3 a.x4 c.requires.below c.requires.x0_bound in
    omega (arith, small)

pub overflow_add-result : goal.overflow_add-result
overflow_add-result c =
    let small : (let a = c.args in Products a.h a.x0 a.x1 a.x2 a.x3 a.x4) = let a = c.args in products a.h a.x0 a.x1 a.x2 a.x3 a.x4 c.requires.below c.requires.x0_bound in
    omega (arith, small)

pub overflow_mul-result-3 : goal.overflow_mul-result-3
overflow_mul-result-3 c =
    let small : (let a = c.args in Products a.h a.x0 a.x1 a.x2 a.x3 a.x4) = let a = c.args in products a.h a.x0 a.x1 a.x2 a.x3 a.x4 c.requires.below c.requires.x0_bound in
    omega (arith, small)

pub overflow_add-result-2 : goal.overflow_add-result-2
overflow_add-result-2 c =
    let small : (let a = c.args in Products a.h a.x0 a.x1 a.x2 a.x3 a.x4) = let a = c.args in products a.h a.x0 a.x1 a.x2 a.x3 a.x4 c.requires.below c.requires.x0_bound in
    omega (arith, small)

pub overflow_mul-result-4 : goal.overflow_mul-result-4
overflow_mul-result-4 c =
    let small : (let a = c.args in Products a.h a.x0 a.x1 a.x2 a.x3 a.x4) = let a = c.args in products a.h a.x0 a.x1 a.x2 a.x3 a.x4 c.requires.below c.requires.x0_bound in
    omega (arith, small)

pub overflow_add-result-3 : goal.overflow_add-result-3
overflow_add-result-3 c =
    let small : (let a = c.args in Products a.h a.x0 a.x1 a.x2 a.x3 a.x4) = let a = c.args in products a.h a.x0 a.x1 a.x2 a.x3 a.x4 c.requires.below c.requires.x0_bound in
    omega (arith, small)

pub overflow_mul-result-5 : goal.overflow_mul-result-5
overflow_mul-result-5 c =
    let small : (let a = c.args in Products a.h a.x0 a.x1 a.x2 a.x3 a.x4) = let a = c.args in products a.h a.x0 a.x1 a.x2 a.x3 a.x4 c.requires.below c.requires.x0_bound in
    omega (arith, small)

pub overflow_add-result-4 : goal.overflow_add-result-4
overflow_add-result-4 c =
    let small : (let a = c.args in Products a.h a.x0 a.x1 a.x2 a.x3 a.x4) = let a = c.args in products a.h a.x0 a.x1 a.x2 a.x3 a.x4 c.requires.below c.requires.x0_bound in
    omega (arith, small)
