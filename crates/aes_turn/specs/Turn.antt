-- The exchanges that turn a matrix of bits, in the order of the code.
use Rattle.std.specs.Prelude.{List, ℕ, zero, suc, ◌+◌, ◌*◌, ◌/◌, ◌%◌, ◌^◌, get_or, set}
use Rattle.aes_circuit.specs.Circuit.{◌⊻◌, ◌⊗◌}

-- what two words differ in, at the digits of the mask m: digit k of b and digit k + d of a
unfoldable pub moved_of : ℕ → ℕ → ℕ → ℕ → ℕ
moved_of d m a b = (a / 2 ^ d ⊻ b) ⊗ m

unfoldable pub low_word : ℕ → ℕ → ℕ → ℕ → ℕ
low_word d m a b = a ⊻ moved_of d m a b * 2 ^ d % 2 ^ 32

unfoldable pub high_word : ℕ → ℕ → ℕ → ℕ → ℕ
high_word d m a b = b ⊻ moved_of d m a b

-- the first n words of two rows of 4 * d words, one behind the other
unfoldable pub exchange_of : List ℕ → ℕ → ℕ → ℕ → ℕ → List ℕ
exchange_of s at d m zero = s
exchange_of s at d m (suc x) =
    let u = exchange_of s at d m x in
    let a = get_or u (at + x) 0 in
    let b = get_or u (at + 4 * d + x) 0 in
    set (set u (at + 4 * d + x) (high_word d m a b)) (at + x) (low_word d m a b)

-- n pairs of rows
unfoldable pub stage_of : List ℕ → ℕ → ℕ → ℕ → List ℕ
stage_of s d m zero = s
stage_of s d m (suc n) = exchange_of (stage_of s d m n) (8 * d * n) d m (4 * d)

unfoldable pub turn_of : List ℕ → List ℕ
turn_of s =
    stage_of (stage_of (stage_of (stage_of (stage_of s 16 0xffff 1) 8 0xff00ff 2) 4 0xf0f0f0f 4) 2 0x33333333 8) 1 0x55555555 16
