use native.Mathlib.Omega.{arith}
use Rattle.blake3_lanes.proofs.BlockLaws.{passed_none, passed-more, passed-all}
use Rattle.blake3_lanes.proofs.compress_chunks.Goals as goal

pub loop-i-init : goal.loop-i-init
loop-i-init c =
    let a = c.args in
    (omega arith, passed_none a.s.now a.t c.requires.s_len a.x.now _ c.first_values.ensures)

pub loop-i-preserved : goal.loop-i-preserved
loop-i-preserved c =
    let a = c.args in
    let l = c.loop-i in
    (omega arith, passed-more a.s.now a.t c.requires.s_len l.x _ l.d l.i (omega arith) l.invariant.1 c.compress_blocks.ensures)

pub returns : goal.returns
returns c =
    let a = c.args in
    let l = c.loop-i in
    passed-all a.s.now a.t c.requires.s_len l.x _ l.d l.i (omega arith) l.invariant.1 c.compress_blocks-2.ensures
