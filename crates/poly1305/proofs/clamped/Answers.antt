use mathlib.Core.Path.{ap, ap₂, ◌∙◌}
use Prim.Native.Nat.{ℕ}
use Rattle.poly1305.specs.Limbs.{from_words}
use Rattle.poly1305.specs.Poly1305.{clamp}
use Rattle.poly1305.proofs.WordLaws.{clamp-law}
use Rattle.poly1305.proofs.BlockLaws.{words-16}
use borrow.Author.Rules.{rules}
use Rattle.poly1305.proofs.clamped.Goals as goal

pub returns : goal.returns
returns c =
    let key = c.args.key.now in record {
      below = c.from_words.ensures.below;
      result_value = c.from_words.ensures.result_value ∙ ap₂ (λ (x y : ℕ). from_words x y 0) c.masked.ensures c.masked-2.ensures
          ∙ clamp-law c.read_u64.result c.read_u64-2.result (search rules)
          ∙ ap clamp (ap₂ (λ (x y : ℕ). from_words x y 0) c.read_u64.ensures c.read_u64-2.ensures ∙ words-16 key);
    }
