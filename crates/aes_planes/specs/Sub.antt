-- SubBytes on planes, in the order of the code.
use Rattle.std.specs.Prelude.{List, ℕ, zero, suc, ◌+◌, ◌*◌, ◌-◌, set}
use Rattle.aes_circuit.specs.Circuit.{sbox_of}
use Rattle.aes_circuit.specs.Planes.{planes}
use Rattle.aes_circuit.specs.declared.Bits.{Bits}

-- eight planes, at every eighth place
unfoldable pub store_of : List ℕ → ℕ → Bits → List ℕ
store_of t at x =
    set (set (set (set (set (set (set (set t (at + 56) x.x0) (at + 48) x.x1) (at + 40) x.x2) (at + 32) x.x3) (at + 24) x.x4)
    (at + 16) x.x5) (at + 8) x.x6) at x.x7

-- the columns below j of row r, each twice
unfoldable pub row_of : List ℕ → List ℕ → ℕ → ℕ → List ℕ
row_of t s r zero = t
row_of t s r (suc j) =
    let x = sbox_of 0xffffffff (planes 4 s (32 * r + j)) in
    store_of (store_of (row_of t s r j) (64 * r + j) x) (64 * r + 4 + j) x

-- the last n rows
unfoldable pub sub_of : List ℕ → List ℕ → ℕ → List ℕ
sub_of t s zero = t
sub_of t s (suc n) = row_of (sub_of t s n) s (3 - n) 4
