use mathlib.Core.Path.{◌∙◌, sym, ap}
use Prim.Native.Nat.{◌+◌, ◌-◌}
use native.Mathlib.Omega.{arith}
use borrow.Rule.Slice.PartMut.{put_mid}
use lib.ListN.{length}
use lib.Seq.{sets-eq}
use Rattle.octets.specs.Buffers.{put}
use Rattle.octets.proofs.BufferLaws.{part-put}
use Rattle.records.proofs.write.Goals as goal

pub returns : goal.returns
unfolding put
returns c =
    let a = c.args in
    let n = a.at + length a.from.now - a.at in
    ap (put_mid a.at n a.words.now) c.copy_from_slice.ensures.after ∙ part-put a.words.now a.from.now a.at n (omega arith)
    ∙ sym (sets-eq a.from.now a.words.now a.at (omega arith))
