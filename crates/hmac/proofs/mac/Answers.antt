use mathlib.Core.Path.{ap, ◌∙◌}
use mathlib.Core.List.{List, ◌++◌}
use Prim.Native.Nat.{ℕ, ◌+◌}
use lib.ListN.{length}
use Rattle.sha1_hash.specs.Hash.{padding, all_blocks, digest_bytes}
use Rattle.hmac.specs.Hmac.{mac_with}
use Rattle.hmac.proofs.mac.Goals as goal

pub returns : goal.returns
unfolding mac_with
returns c =
    let k = c.args.k in
    c.digest.ensures
    ∙ ap digest_bytes
    (c.finish.ensures ∙ ap (λ (d : List ℕ). all_blocks k.outer (d ++ padding (64 + length d))) c.inner_hash-d.ensures)
