use Rattle.chacha_poly.proofs.ExtendedLaws.{extended-opens}
use Rattle.chacha_poly.proofs.extended.open_extended.Goals as goal

pub returns : goal.returns
returns c =
    let a = c.args in let all = extended-opens a.n a.key.now a.nonce.now c.subkey-k.result c.inner_nonce-inner.result
    c.subkey-k.ensures c.inner_nonce-inner.ensures a.s.now a.out.now _
    c.open.ensures.value c.open.ensures.out_after in record { value = all.0; out_after = all.1 }
