-- The bytes of a hash value, written word by word.
-- Assumes nothing.
use Rattle.std.proofs.Common.{◌≡◌, ℕ, ◌+◌, ◌*◌, ◌/◌, ◌^◌, ◌<◌, ◌≤◌, List, ◌++◌, length, drop, ap, ◌∙◌, ap₂, append_assoc, arith, length-append, length-drop}
use Rattle.octets.specs.Buffers.{Octets, put}
use Rattle.octets.specs.Numbers.{to_be}
use Rattle.octets.proofs.BufferLaws.{put-behind, octets-append}
use Rattle.octets.proofs.NumberLaws.{length-to_be, octets-to_be, to_be-add, to_be-high}
use Rattle.sha1_compression.specs.declared.State.{State}
use Rattle.sha1_hash.proofs.BlockLaws.{put_last}
use Rattle.sha1_hash.specs.Hash.{initial_hash, padded, all_blocks, digest_bytes, sha1}

-- two words in one number
pub two-words : (x y : ℕ) → y < 2 ^ 32 → to_be 8 (x * 2 ^ 32 + y) ≡ to_be 4 x ++ to_be 4 y
two-words x y h =
    let e : (x * 2 ^ 32 + y) / 2 ^ 32 ≡ x = omega arith in
    to_be-add 4 4 (x * 2 ^ 32 + y) ∙ ap₂ (λ (s t : List ℕ). s ++ t) (ap (to_be 4) e) (to_be-high 4 x y)

-- words a and b, c and d, and d again with e
joined : (d a b c g k v1 v2 v3 : List ℕ) → length d ≡ 20 → length a ≡ 4 → length b ≡ 4 → length c ≡ 4 → length g ≡ 4 → length k ≡ 4
    → v1 ≡ put d 0 (a ++ b) → v2 ≡ put v1 8 (c ++ g) → v3 ≡ put v2 12 (g ++ k) → v3 ≡ a ++ (b ++ (c ++ (g ++ k)))
unfolding put
joined d a b c g k v1 v2 v3 nd na nb nc ng nk e1 e2 e3 =
    let nab : length (a ++ b) ≡ 8 = omega (arith, length-append a b) in
    let ncg : length (c ++ g) ≡ 8 = omega (arith, length-append c g) in
    let nf : length (a ++ b ++ c) ≡ 12 = omega (arith, length-append (a ++ b) c) in
    let f : 0 + length (a ++ b) ≤ length d = omega arith in
    let n8 : 8 ≡ 0 + length (a ++ b) = omega arith in
    let z = drop (0 + length (a ++ b ++ (c ++ g))) d in
    let ng' : length (g ++ z) ≤ length (g ++ k) = omega (arith, length-append g z, length-append g k, length-append (a ++ b) (c ++ g), length-drop (0 + length (a ++ b ++ (c ++ g))) d) in
    let e : v2 ≡ (a ++ b ++ c) ++ (g ++ z) = put-behind d (a ++ b) (c ++ g) v1 v2 0 8 n8 f e1 e2 ∙ simp append_assoc in
    e3 ∙ ap (λ (v : List ℕ). put v 12 (g ++ k)) e ∙ put_last (a ++ b ++ c) (g ++ z) (g ++ k) 12 nf ng' ∙ simp append_assoc

pub written : (h : State) (d v1 v2 v3 : List ℕ) (p q r : ℕ) → length d ≡ 20
    → to_be 8 p ≡ to_be 4 h.a ++ to_be 4 h.b → v1 ≡ put d 0 (to_be 8 p)
    → to_be 8 q ≡ to_be 4 h.c ++ to_be 4 h.d → v2 ≡ put v1 8 (to_be 8 q)
    → to_be 8 r ≡ to_be 4 h.d ++ to_be 4 h.e → v3 ≡ put v2 12 (to_be 8 r) → v3 ≡ digest_bytes h
unfolding digest_bytes
written h d v1 v2 v3 p q r l ep e1 eq e2 er e3 =
    joined d (to_be 4 h.a) (to_be 4 h.b) (to_be 4 h.c) (to_be 4 h.d) (to_be 4 h.e) v1 v2 v3 l
    (length-to_be 4 h.a) (length-to_be 4 h.b) (length-to_be 4 h.c) (length-to_be 4 h.d) (length-to_be 4 h.e)
    (e1 ∙ ap (put d 0) ep) (e2 ∙ ap (put v1 8) eq) (e3 ∙ ap (put v2 12) er)

-- 20 bytes
pub length-digest : (h : State) → length (digest_bytes h) ≡ 20
unfolding digest_bytes
length-digest h =
    let a = to_be 4 h.a in
    let b = to_be 4 h.b in
    let c = to_be 4 h.c in
    let g = to_be 4 h.d in
    let k = to_be 4 h.e in
    omega (
      arith,
      length-append a (b ++ (c ++ (g ++ k))),
      length-append b (c ++ (g ++ k)),
      length-append c (g ++ k),
      length-append g k,
      length-to_be 4 h.a,
      length-to_be 4 h.b,
      length-to_be 4 h.c,
      length-to_be 4 h.d,
      length-to_be 4 h.e,
    )

pub octets-digest : (h : State) → Octets (digest_bytes h)
unfolding digest_bytes
octets-digest h =
    octets-append _ _ (octets-to_be 4 h.a)
    (octets-append _ _ (octets-to_be 4 h.b)
    (octets-append _ _ (octets-to_be 4 h.c) (octets-append _ _ (octets-to_be 4 h.d) (octets-to_be 4 h.e))))

pub length-sha1 : (s : List ℕ) → length (sha1 s) ≡ 20
unfolding sha1
length-sha1 s = length-digest (all_blocks initial_hash (padded s))

pub octets-sha1 : (s : List ℕ) → Octets (sha1 s)
unfolding sha1
octets-sha1 s = octets-digest (all_blocks initial_hash (padded s))
