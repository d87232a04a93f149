use mathlib.Core.Path.{◌∙◌}
use Rattle.aes_tables.specs.SBox.{s_box}
use Rattle.aes.specs.Cipher.{mix_column}
use Rattle.aes.proofs.RoundLaws.{mixed-law}
use borrow.Author.Rules.{rules}
use Rattle.aes.proofs.encrypt.column.Goals as goal

pub returns : goal.returns
returns c =
    c.mixed.ensures ∙ mixed-law c.args.t.now
    c.byte0.result c.byte1.result c.byte2.result c.byte3.result (search rules) (search rules) (search rules) (search rules) c.requires
    ∙ (λ i. mix_column (s_box (c.byte0.ensures i)) (s_box (c.byte1.ensures i)) (s_box (c.byte2.ensures i)) (s_box (c.byte3.ensures i)))
