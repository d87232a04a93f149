use Prim.Native.Nat.{◌+◌, ◌<◌, ◌^◌}
use native.Mathlib.Omega.{arith}
use Rattle.poly1305.proofs.PrimeLaws.{top_small, carry-sum}
use Rattle.poly1305.proofs.limbs.carry.Goals as goal

pub overflow_add-s0 : goal.overflow_add-s0
overflow_add-s0 c =
    let top : c.split-s4.result.high < 2 ^ 36 = let d = c.args.d in top_small d.l0 d.l1 d.l2 d.l3 d.l4 c.split-s0.result c.split-s1.result c.split-s2.result c.split-s3.result c.split-s4.result c.split-s0.ensures c.split-s1.ensures c.split-s2.ensures c.split-s3.ensures c.split-s4.ensures c.requires.b0 c.requires.b1 c.requires.b2 c.requires.b3 c.requires.b4 in
    omega (arith, top, c.split-s0.ensures.low)

pub overflow_add-result : goal.overflow_add-result
overflow_add-result c =
    let top : c.split-s4.result.high < 2 ^ 36 = let d = c.args.d in top_small d.l0 d.l1 d.l2 d.l3 d.l4 c.split-s0.result c.split-s1.result c.split-s2.result c.split-s3.result c.split-s4.result c.split-s0.ensures c.split-s1.ensures c.split-s2.ensures c.split-s3.ensures c.split-s4.ensures c.requires.b0 c.requires.b1 c.requires.b2 c.requires.b3 c.requires.b4 in
    let second : c.split-s1.result.low + c.split-t0.result.high < 2 ^ 26 + 2 ^ 20 = omega (arith, top, c.split-t0.ensures.sum, c.split-s0.ensures.low, c.split-s1.ensures.low) in
    omega (arith, second)

pub returns : goal.returns
returns c =
    let top : c.split-s4.result.high < 2 ^ 36 = let d = c.args.d in top_small d.l0 d.l1 d.l2 d.l3 d.l4 c.split-s0.result c.split-s1.result c.split-s2.result c.split-s3.result c.split-s4.result c.split-s0.ensures c.split-s1.ensures c.split-s2.ensures c.split-s3.ensures c.split-s4.ensures c.requires.b0 c.requires.b1 c.requires.b2 c.requires.b3 c.requires.b4 in
    let second : c.split-s1.result.low + c.split-t0.result.high < 2 ^ 26 + 2 ^ 20 = omega (arith, top, c.split-t0.ensures.sum, c.split-s0.ensures.low, c.split-s1.ensures.low) in
    let d = c.args.d in record {
      loose = record {
        b0 = c.split-t0.ensures.low;
        b1 = second;
        b2 = c.split-s2.ensures.low;
        b3 = c.split-s3.ensures.low;
        b4 = c.split-s4.ensures.low;
      };
      result_value = carry-sum d.l0 d.l1 d.l2 d.l3 d.l4 c.split-s0.result c.split-s1.result c.split-s2.result c.split-s3.result
          c.split-s4.result c.split-s0.ensures c.split-s1.ensures c.split-s2.ensures c.split-s3.ensures c.split-s4.ensures
          c.split-t0.result c.split-t0.ensures;
    }
