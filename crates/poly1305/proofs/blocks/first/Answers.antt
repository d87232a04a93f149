use mathlib.Core.Path.{ap₂, ◌∙◌}
use Prim.Native.Nat.{ℕ}
use Rattle.poly1305.specs.Limbs.{from_words}
use Rattle.poly1305.proofs.BlockLaws.{number-first}
use Rattle.poly1305.proofs.blocks.first.Goals as goal

pub returns : goal.returns
returns c = record {
  below = c.from_words.ensures.below;
  result_value = c.from_words.ensures.result_value ∙ ap₂ (λ (x y : ℕ). from_words x y 1) c.read_u64.ensures c.read_u64-2.ensures
      ∙ number-first c.args.s.now;
}
