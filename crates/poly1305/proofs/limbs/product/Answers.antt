use Rattle.poly1305.proofs.PrimeLaws.{product_law}
use Rattle.poly1305.proofs.limbs.product.Goals as goal

pub returns : goal.returns
returns c =
    let a = c.args in record { below_2 = record { b0 = c.dot.ensures.upper_bound; b1 = c.dot-2.ensures.upper_bound; b2 = c.dot-3.ensures.upper_bound; b3 = c.dot-4.ensures.upper_bound; b4 = c.dot-5.ensures.upper_bound }; result_value = product_law a.h a.r _ c.dot.ensures.value c.dot-2.ensures.value c.dot-3.ensures.value c.dot-4.ensures.value c.dot-5.ensures.value }
