use mathlib.Core.Path.{◌≡◌, sym, ap, ◌∙◌}
use native.Mathlib.Omega.{arith}
use lib.ListN.{take}
use lib.Seq.{length-take-le}
use Rattle.octets.specs.Buffers.{put}
use Rattle.blake3.specs.Tree.{hash}
use Rattle.settings_write.proofs.write_hash.Goals as goal

pub slice_bounds-hash-end-2 : goal.slice_bounds-hash-end-2
slice_bounds-hash-end-2 c = sym (length-take-le _ c.args.out.now (omega arith))

pub returns : goal.returns
returns c =
    let a = c.args in
    let e : c.hash-h.result ≡ hash (take a.at a.out.now) = search c.hash-h.ensures in
    c.copy.ensures ∙ ap (put a.out.now a.at) e
