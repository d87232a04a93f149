use Rattle.octets.proofs.BufferLaws.{put-none}
use Rattle.blake3.specs.Words.{word_bytes}
use Rattle.blake3.proofs.WordLaws.{put_word, put-words}
use Rattle.blake3.proofs.write_words.Goals as goal

pub loop-i-init : goal.loop-i-init
unfolding word_bytes
loop-i-init c = put-none c.args.out.now 0

pub loop-i-preserved : goal.loop-i-preserved
loop-i-preserved c =
    let a = c.args in
    put_word a.out.now a.o.now c.loop-i.i c.loop-i-test.true c.requires c.loop-i.invariant c.write_u32_le.ensures

pub returns : goal.returns
returns c =
    let a = c.args in
    put-words a.out.now a.o.now c.loop-i.i c.loop-i-test.false c.loop-i.invariant
