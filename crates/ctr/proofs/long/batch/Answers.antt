use Rattle.std.proofs.Common.{map, ap, ◌∙◌}
use Rattle.aes.specs.Cipher.{cipher}
use Rattle.aes.specs.Words.{bytes}
use Rattle.ctr.proofs.long.batch.Goals as goal

pub returns : goal.returns
returns c =
    let a = c.args in record {
      text_len_unchanged = c.xor_blocks.ensures.text_len_unchanged;
      by_index = λ w counter all keys v.
          c.xor_blocks.ensures.by_index _ _ counter all _
          (record {
            each = λ k h.
                c.cipher.ensures.by_index (map bytes w) k keys h ∙ ap (cipher a.rounds (map bytes w)) (c.counter_blocks.ensures.batch.each k h);
          })
          v;
    }
