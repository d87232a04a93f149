use Rattle.std.proofs.Common.{ℕ, List, ◌++◌, ap}
use Rattle.aes.specs.Words.{bytes, block_bytes}
use Rattle.ctr.proofs.counter_block.Goals as goal

pub returns : goal.returns
unfolding block_bytes
returns c =
    let n = c.args.n in
    ap (λ (d : List ℕ). bytes n.a ++ (bytes n.b ++ (bytes n.c ++ d))) c.swapped.ensures
