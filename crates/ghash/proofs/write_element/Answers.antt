use mathlib.Core.Path.{ap, ◌∙◌}
use mathlib.Core.List.{List}
use Prim.Native.Nat.{ℕ}
use borrow.Author.Rules.{rules}
use Rattle.octets.specs.Buffers.{put}
use Rattle.octets.specs.Numbers.{to_be}
use Rattle.ghash.proofs.ElementLaws.{put-words}
use Rattle.ghash.proofs.write_element.Goals as goal

pub returns : goal.returns
returns c =
    let x = c.args.x in
    c.write_u64_be-2.ensures
    ∙ ap (λ (o : List ℕ). put o 8 (to_be 8 x.lo)) c.write_u64_be.ensures
    ∙ put-words c.args.out.now x.hi x.lo c.requires (search rules)
