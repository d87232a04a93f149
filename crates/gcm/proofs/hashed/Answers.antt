use mathlib.Core.Path.{ap, ◌∙◌}
use mathlib.Core.List.{List}
use Prim.Native.Nat.{ℕ}
use borrow.Author.Rules.{rules}
use lib.ListN.{length}
use Rattle.ghash.specs.Ghash.{blocks, ghash_from}
use Rattle.ghash.specs.Table.{key_in}
use Rattle.ghash.specs.Words.{block_of}
use Rattle.ghash.proofs.GhashLaws.{ghash-block}
use Rattle.gcm.proofs.GcmLaws.{hash-law, bits-lt}
use Rattle.gcm.proofs.hashed.Goals as goal

pub returns : goal.returns
returns c =
    let a = c.args in
    let h = key_in a.g.now in
    c.ghash_from.ensures
    ∙ ap (λ (s : List ℕ). ghash_from h (block_of c.ghash_from-y.result) (blocks s)) c.element_bytes.ensures
    ∙ ghash-block h (block_of c.ghash_from-y.result) _ (bits-lt (length a.c.now) (search rules))
    ∙ hash-law h _ a.c.now c.ghash_from-y.ensures
