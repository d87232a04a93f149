use native.Mathlib.Omega.{arith}
use Rattle.blake3_tree.specs.Subtree.{flag}
use Rattle.blake3_tree.proofs.JoinLaws.{one_chunk, joins-parts}
use Rattle.blake3_tree.proofs.+subtree.Goals as goal

pub returns-then-s-le1024 : goal.returns-then-s-le1024
returns-then-s-le1024 t c = let a = c.args in one_chunk a.t (flag a.place) a.s.now (omega arith) c.chunk_words.ensures

pub returns : goal.returns
returns t c =
    let a = c.args in
    let p = c.split_at.ensures in
    joins-parts a.t (flag a.place) a.s.now c.left_length.result c.left_length.ensures (omega (arith, c.well_formed))
    p.front p.front_len p.back c.subtree-left.ensures c.subtree-right.ensures c.parent_words.ensures
