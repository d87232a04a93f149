use mathlib.Core.Path.{ap, ap₂, sym, ◌∙◌}
use Prim.Native.Nat.{ℕ}
use lib.ListN.{drop}
use lib.Seq.{drop-drop}
use Rattle.octets.specs.Numbers.{le}
use Rattle.poly1305.specs.Limbs.{from_words}
use Rattle.poly1305.proofs.BlockLaws.{words-16}
use Rattle.poly1305.proofs.second_half.Goals as goal

pub returns : goal.returns
returns c =
    let key = c.args.key.now in record {
      below = c.from_words.ensures.below;
      result_value = c.from_words.ensures.result_value
          ∙ ap₂ (λ (x y : ℕ). from_words x y 0) c.read_u64.ensures (c.read_u64-2.ensures ∙ ap (le 8) (sym (drop-drop 8 16 key)))
          ∙ words-16 (drop 16 key);
    }
