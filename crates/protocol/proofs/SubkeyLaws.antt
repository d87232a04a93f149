-- The key material: the key, and the salt behind it.
-- Assumes nothing.
use mathlib.Core.Path.{◌≡◌, sym, ap₂, ◌∙◌}
use mathlib.Core.List.{List, ◌++◌}
use Prim.Native.Nat.{ℕ, ◌+◌, ◌≤◌}
use native.Mathlib.Nat.{zero-add}
use native.Mathlib.Omega.{arith}
use lib.ListN.{length, take, length-append}
use Rattle.octets.specs.Buffers.{put}
use Rattle.octets.proofs.BufferLaws.{put-put, take_put}

pub material-law : (z key salt k m : List ℕ) → length key + length salt ≤ length z → k ≡ put z 0 key → m ≡ put k (length key) salt
    → take (length key + length salt) m ≡ key ++ salt
material-law z key salt k m fits ek em =
    let n : length key ≡ 0 + length key = sym (zero-add (length key)) in
    let l : length key + length salt ≡ 0 + length (key ++ salt) = sym (zero-add _ ∙ length-append key salt) in
    ap₂ take l (em ∙ (λ i. put (ek i) (n i) salt) ∙ put-put z 0 key (omega arith) salt)
    ∙ take_put z 0 (key ++ salt) (omega (arith, l))
