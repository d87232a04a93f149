use Prim.Native.Nat.{◌%◌}
use native.Mathlib.Nat.{mod-lt, zero-lt-suc}
use Rattle.ghash.proofs.product.entry_at.Goals as goal

pub returns : goal.returns
returns c =
    let a = c.args in
    c.requires.table_for.at a.j c.requires.j_bound (a.w % 16) (mod-lt a.w (zero-lt-suc 15))
