use Rattle.std.proofs.Common.{ℕ, List, ap, ◌∙◌}
use Rattle.sha1_compression.specs.Schedule.{block_words}
use Rattle.sha1_compression.specs.Compression.{compressed}
use Rattle.sha1_hash.proofs.with_length.Goals as goal

pub returns : goal.returns
returns c =
    let a = c.args in
    c.compress.ensures ∙ ap (λ (b : List ℕ). compressed a.h (block_words b)) c.write_u64_be.ensures
