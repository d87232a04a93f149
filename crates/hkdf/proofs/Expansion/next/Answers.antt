use mathlib.Core.Path.{refl}
use Prim.Native.Nat.{◌+◌}
use lib.ListN.{set}
use Rattle.hkdf.proofs.BufferLaws.{next-laid}
use Rattle.hkdf.proofs.Expansion.next.Goals as goal

pub returns-clause-by_index : goal.returns-clause-by_index
returns-clause-by_index c =
    let e = c.args.self.now in
    let i = c.args.i in
    next-laid e.key e.buffer (set e.buffer (20 + e.info_len) (i + 1)) c.copy.new.out c.mac-t.result e.info_len i refl c.mac-t.ensures c.copy.ensures
