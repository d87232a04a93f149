use mathlib.Core.Path.{ap, ◌∙◌}
use Prim.Native.Nat.{ℕ, ◌*◌, ◌/◌, ◌^◌}
use lib.Bits.{bit_xor}
use Rattle.ghash.specs.Words.{long_of}
use Rattle.ghash.proofs.product.lookup.Goals as goal

pub returns : goal.returns
returns c =
    let s = c.args.s in record { high_value = c.shifted.ensures ∙ ap (λ (v : ℕ). bit_xor (long_of s.high / 2 ^ 16) (v * 2 ^ 64)) c.four_lookups.ensures; low_value = c.shifted-2.ensures ∙ ap (λ (v : ℕ). bit_xor (long_of s.low / 2 ^ 16) (v * 2 ^ 64)) c.four_lookups-2.ensures }
