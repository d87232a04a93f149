-- What the writers leave, step by step, is the head.
-- Assumes nothing.
use mathlib.Core.Path.{◌≡◌, refl, sym, ap, ◌∙◌}
use mathlib.Core.List.{List, [], ◌∷◌, ◌++◌, append_assoc}
use Prim.Native.Nat.{ℕ, ◌+◌, ◌-◌, ◌≤◌}
use native.Mathlib.Omega.{arith}
use lib.ListN.{length, take, drop, set, replicate, length-append, length-replicate, length-drop}
use lib.Seq.{length-take-le}
use Rattle.octets.specs.Buffers.{put}
use Rattle.octets.specs.Numbers.{to_be}
use Rattle.octets.proofs.BufferLaws.{put-behind, put_one}
use Rattle.octets.proofs.NumberLaws.{length-to_be}
use Rattle.aead.specs.Aead.{text_of}
use Rattle.protocol.specs.declared.Cipher.{Cipher}
use Rattle.protocol.specs.Subkey.{subkey}
use Rattle.stream_pieces.specs.Pieces.{seal_at, Keyed, keyed}
use Rattle.stream_pieces.proofs.PieceLaws.{pair-law}
use Rattle.stream_seal_heads.specs.HeadSealing.{fixed_part, front, variable_part, variable_length, request_at, request, response_of, response}
use Rattle.stream_seal_heads.proofs.HeadLengthLaws.{length-fixed_part, length-variable_part}

-- the part from a place up to n
pub length-part : (n at : ℕ) (l : List ℕ) → n ≤ length l → length (take (n - at) (drop at l)) ≡ n - at
length-part n at l h = length-take-le (n - at) (drop at l) (omega (arith, h, length-drop at l))

-- ---- heads

pub fixed-law : (d v u w : List ℕ) (kind clock : ℕ) (binding : List ℕ) (n : ℕ) → 11 + length binding ≤ length d
    → v ≡ put (set d 0 kind) 1 (to_be 8 clock) → u ≡ put v 9 binding → w ≡ put u (9 + length binding) (to_be 2 n)
    → w ≡ put d 0 (fixed_part kind clock binding n)
unfolding fixed_part
fixed-law d v u w kind clock binding n h ev eu ew =
    let s : List ℕ = kind ∷ to_be 8 clock in
    let l = length-to_be 8 clock in
    let n₁ : 9 ≡ 0 + length s = omega (arith, l) in
    let n₂ : 9 + length binding ≡ 0 + length (s ++ binding) = omega (arith, l, length-append s binding) in
    put-behind d (s ++ binding) (to_be 2 n) u w 0 (9 + length binding) n₂ (omega (arith, sym n₂))
    (put-behind d s binding v u 0 9 n₁ (omega (arith, l))
    (put-behind d (kind ∷ []) (to_be 8 clock) (set d 0 kind) v 0 1 refl (omega arith) (sym (put_one d 0 kind (omega arith))) ev) eu)
    ew
    ∙ ap (put d 0) (append_assoc s binding (to_be 2 n))

-- ---- the variable header

pub variable-law : (d v u t w address : List ℕ) (at padding : ℕ) (payload : List ℕ)
    → at + variable_length (length address) padding (length payload) ≤ length d → v ≡ put d at address
    → u ≡ put v (at + length address) (to_be 2 padding) → t ≡ put u (at + length address + 2) (replicate padding 0)
    → w ≡ put t (at + length address + 2 + padding) payload → w ≡ put d at (variable_part address padding payload)
unfolding variable_part variable_length
variable-law d v u t w address at padding payload h ev eu et ew =
    let p = to_be 2 padding in
    let z : List ℕ = replicate padding 0 in
    let lp = length-to_be 2 padding in
    let lz : length z ≡ padding = length-replicate {A = ℕ} padding 0 in
    let lap = length-append address p in
    let lapz = length-append (address ++ p) z in
    let n₂ : at + length address + 2 ≡ at + length (address ++ p) = omega (arith, lp, lap) in
    let n₃ : at + length address + 2 + padding ≡ at + length (address ++ p ++ z) = omega (arith, lp, lz, lap, lapz) in
    put-behind d (address ++ p ++ z) payload t w at (at + length address + 2 + padding) n₃ (omega (arith, sym n₃))
    (put-behind d (address ++ p) z u t at (at + length address + 2) n₂ (omega (arith, sym n₂))
    (put-behind d address p v u at (at + length address) refl (omega arith) ev eu) et)
    ew
    ∙ ap (put d at) (append_assoc (address ++ p) z payload ∙ append_assoc address p (z ++ payload))

-- ---- the two pieces, where they stand

pub request-pieces : (key : Keyed) (d v o r address : List ℕ) (clock m padding : ℕ) (payload : List ℕ)
    → length d ≡ 27 + variable_length (length address) padding (length payload) + 16 → m ≡ length d - 43 → v ≡ put d 0 (fixed_part 0 clock [] m)
    → o ≡ put v 27 (variable_part address padding payload)
    → r ≡ seal_at key 0 (text_of (take 27 o)) ++ seal_at key 1 (text_of (drop 27 o)) → let q = variable_part address padding payload in
    r ≡ seal_at key 0 (fixed_part 0 clock [] (length q)) ++ seal_at key 1 q
request-pieces key d v o r address clock m padding payload l em ev eo er =
    let q = variable_part address padding payload in
    let lq = length-variable_part address padding payload in
    let n : m ≡ length q = omega (arith, em, l, lq) in
    let p = fixed_part 0 clock [] (length q) in
    let front : 27 ≡ length p + 16 = omega (arith, length-fixed_part 0 clock [] (length q)) in
    pair-law d p q v o 27 front (omega (arith, l, lq)) (ev ∙ ap (λ (x : ℕ). put d 0 (fixed_part 0 clock [] x)) n) eo key r 0 er

pub response-pieces : (key : Keyed) (d v o r binding : List ℕ) (clock : ℕ) (payload : List ℕ)
    → length d ≡ 27 + length binding + length payload + 16 → v ≡ put d 0 (fixed_part 1 clock binding (length payload))
    → let at = 27 + length binding in o ≡ put v at payload
    → r ≡ seal_at key 0 (text_of (take at o)) ++ seal_at key 1 (text_of (drop at o))
    → r ≡ seal_at key 0 (fixed_part 1 clock binding (length payload)) ++ seal_at key 1 payload
response-pieces key d v o r binding clock payload l ev eo er =
    let p = fixed_part 1 clock binding (length payload) in
    let front : 27 + length binding ≡ length p + 16 = omega (arith, length-fixed_part 1 clock binding (length payload)) in
    pair-law d p payload v o (27 + length binding) front (omega (arith, l)) ev eo key r 0 er

-- ---- the whole: the pieces behind the salt

module _ (key : Keyed) (d v b w salt : List ℕ) (clock : ℕ) (h : length salt ≤ length d) (ev : v ≡ put d 0 salt) (ew : w ≡ put v (length salt) b) where
  behind : (x y : List ℕ) → b ≡ x ++ y → w ≡ put d 0 (salt ++ x ++ y)
  behind x y eb =
      let n : length salt ≡ 0 + length salt = omega arith in
      put-behind d salt b v w 0 (length salt) n (omega arith) ev ew ∙ ap (put d 0) (ap (λ (z : List ℕ). salt ++ z) eb ∙ sym (append_assoc salt x y))

  pub request-law : (address : List ℕ) (padding : ℕ) (payload : List ℕ) → let q = variable_part address padding payload in
      b ≡ seal_at key 0 (fixed_part 0 clock [] (length q)) ++ seal_at key 1 q → w ≡ put d 0 (request_at key salt clock address padding payload)
  unfolding request_at front
  request-law address padding payload eb =
      let q = variable_part address padding payload in
      behind (seal_at key 0 (fixed_part 0 clock [] (length q))) (seal_at key 1 q) eb

  pub response-law : (binding payload : List ℕ) → b ≡ seal_at key 0 (fixed_part 1 clock binding (length payload)) ++ seal_at key 1 payload
      → w ≡ put d 0 (response_of key salt binding clock payload)
  unfolding response_of front
  response-law binding payload eb = behind (seal_at key 0 (fixed_part 1 clock binding (length payload))) (seal_at key 1 payload) eb

-- under the subkey of a key and the salt
module _ (c f : Cipher) (same : c ≡ f) (k key salt d w : List ℕ) (clock : ℕ) (e : k ≡ subkey key salt) where
  under : keyed c k ≡ keyed f (subkey key salt)
  under = λ i. keyed (same i) (e i)

  pub request-under : (address : List ℕ) (padding : ℕ) (payload : List ℕ) → w ≡ put d 0 (request_at (keyed c k) salt clock address padding payload)
      → w ≡ put d 0 (request f key salt clock address padding payload)
  unfolding request
  request-under address padding payload ew = ew ∙ ap (λ (x : Keyed). put d 0 (request_at x salt clock address padding payload)) under

  pub response-under : (binding payload : List ℕ) → w ≡ put d 0 (response_of (keyed c k) salt binding clock payload)
      → w ≡ put d 0 (response f key salt binding clock payload)
  unfolding response
  response-under binding payload ew = ew ∙ ap (λ (x : Keyed). put d 0 (response_of x salt binding clock payload)) under
