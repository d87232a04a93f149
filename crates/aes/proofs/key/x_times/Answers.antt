use mathlib.Core.Path.{◌≡◌, refl}
use Prim.Native.Nat.{◌*◌, ◌%◌}
use native.Mathlib.Omega.{arith}
use Rattle.aes_tables.specs.Field.{x_times}
use Rattle.aes.proofs.key.x_times.Goals as goal

pub returns : goal.returns
unfolding x_times
returns c =
    let e : c.args.b % 128 * 2 ≡ c.args.b * 2 % 256 = omega arith in
    rw e refl
