use mathlib.Core.Path.{◌∙◌}
use mathlib.Core.List.{[], ◌∷◌}
use Rattle.aes_tables.specs.SBox.{s_box}
use Rattle.aes.proofs.RoundLaws.{substituted-law}
use borrow.Author.Rules.{rules}
use Rattle.aes.proofs.encrypt.last_column.Goals as goal

pub returns : goal.returns
returns c =
    c.substituted.ensures ∙ substituted-law c.args.sbox.now
    c.byte0.result c.byte1.result c.byte2.result c.byte3.result (search rules) (search rules) (search rules) (search rules) s_box c.requires
    ∙ (λ i. s_box (c.byte0.ensures i) ∷ s_box (c.byte1.ensures i) ∷ s_box (c.byte2.ensures i) ∷ s_box (c.byte3.ensures i) ∷ [])
