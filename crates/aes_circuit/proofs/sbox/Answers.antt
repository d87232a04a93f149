-- Each digit of the planes by the law of the circuit.
-- Assumes nothing.
use mathlib.Core.Path.{ap, ◌∙◌}
use Rattle.aes_circuit.specs.Circuit.{inverse_of, bottom_of, byte_at}
use Rattle.aes_circuit.proofs.SBoxLaws.{sbox-parts, sbox-planes}
use Rattle.aes_circuit.proofs.sbox.Goals as goal

pub returns : goal.returns
returns c =
    let e =
    sbox-parts _ _ _ _ c.top-y.ensures
    (c.inverse-i.ensures ∙ ap inverse_of c.middle.ensures)
    (c.bottom.ensures ∙ ap (bottom_of 0xffffffff) c.products.ensures) in record { value = e; by_index = λ k h. ap (byte_at k) e ∙ sbox-planes _ k h }
