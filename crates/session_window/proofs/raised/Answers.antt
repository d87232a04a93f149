-- The upper word of a pair, by the law `raise`.
use Prim.Native.Nat.{◌-◌}
use native.Mathlib.Omega.{arith}
use Rattle.session_window.proofs.ShiftLaws.{raise, raise-none}
use borrow.Author.Rules.{rules}
use Rattle.session_window.proofs.raised.Goals as goal

pub returns-then-n-eq0 : goal.returns-then-n-eq0
returns-then-n-eq0 c = raise-none _ _ _ c.if-n-eq0.true (search rules) (search rules)

pub returns : goal.returns
returns c =
    let a = c.args in
    raise 64 a.n (64 - a.n) a.hi a.lo (omega arith) (search rules)
