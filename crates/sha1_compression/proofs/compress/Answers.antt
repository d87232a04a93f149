use Rattle.std.proofs.Common.{ap, ◌∙◌}
use Rattle.sha1_compression.specs.Schedule.{block_words, schedule}
use Rattle.sha1_compression.proofs.ScheduleLaws.{length-words, next-hash}
use Rattle.sha1_compression.proofs.compress.Goals as goal

pub returns : goal.returns
returns c =
    let a = c.args in
    let m = block_words a.s.now in
    next-hash a.h m
    (c.further_words.ensures m (length-words 16 a.s.now)
    (c.first_words.ensures ∙ ap (schedule 16) c.load_block.ensures))
    c.eighty.ensures c.plus.ensures
