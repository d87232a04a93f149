use Rattle.std.proofs.Common.{◌∙◌}
use Rattle.chacha.proofs.StreamLaws.{key_stream-one}
use Rattle.chacha.proofs.block.Goals as goal

pub returns : goal.returns
returns c =
    let a = c.args in
    c.first_blocks.ensures ∙ key_stream-one a.n a.key.now a.counter a.nonce.now
