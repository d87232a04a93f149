use mathlib.Core.Path.{sym}
use native.Mathlib.Omega.{arith}
use Rattle.settings_write.proofs.AnswerLaws.{answered}
use Rattle.settings_write.proofs.WritingLaws.{put-file}
use Rattle.settings_write.proofs.write.Goals as goal

pub write_covered-requires : goal.write_covered-requires
write_covered-requires c =
    let f = answered _ _ _ _ (sym c.in_ok-n.ensures) in
    record { writable = f.writable; bodies_in_bounds = omega (arith, f.size, f.space) }

pub overflow_sub-n : goal.overflow_sub-n
overflow_sub-n c = omega (arith, (answered _ _ _ _ (sym c.in_ok-n.ensures)).size)

pub write_hash-requires : goal.write_hash-requires
write_hash-requires c =
    let f = answered _ _ _ _ (sym c.in_ok-n.ensures) in
    omega (arith, f.size, f.space)

pub returns : goal.returns
returns c =
    let f = answered _ _ _ _ (sym c.in_ok-n.ensures) in
    let a = c.args in
    record {
      value = c.in_ok-n.ensures;
      out_after = put-file a.edition a.settings.now a.bodies.now a.out.now _ _ _ f.size f.space c.write_covered.ensures c.write_hash.ensures;
    }
