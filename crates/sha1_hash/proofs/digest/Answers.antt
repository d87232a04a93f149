use Rattle.std.proofs.Common.{replicate, refl}
use Rattle.sha1_hash.proofs.DigestLaws.{written}
use Rattle.sha1_hash.proofs.digest.Goals as goal

pub returns : goal.returns
returns c =
    let a = c.args in
    written a.h (replicate 20 0) c.write_u64_be.new.out c.write_u64_be-2.new.out c.write_u64_be-3.new.out
    c.two.result c.two-2.result c.two-3.result refl
    c.two.ensures c.write_u64_be.ensures c.two-2.ensures c.write_u64_be-2.ensures
    c.two-3.ensures c.write_u64_be-3.ensures
