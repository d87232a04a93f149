-- What the writers leave, step by step, is the file.
-- Assumes nothing.
use mathlib.Core.Path.{◌≡◌, ap, ◌∙◌}
use mathlib.Core.List.{List, ◌++◌, append_assoc}
use Prim.Native.Nat.{ℕ, ◌+◌, ◌-◌, ◌≤◌}
use native.Mathlib.Omega.{arith}
use lib.ListN.{length, take, length-append}
use Rattle.octets.specs.Buffers.{put}
use Rattle.octets.specs.Numbers.{to_be}
use Rattle.octets.proofs.BufferLaws.{put-behind, take_put}
use Rattle.octets.proofs.NumberLaws.{length-to_be}
use Rattle.blake3.specs.Tree.{hash}
use Rattle.blake3.proofs.DerivationLaws.{length-hash}
use Rattle.settings_file.specs.Format.{place_of, hash_length}
use Rattle.settings_write.specs.Writing.{size_of, given, entries, covered, file_of, file_length, Writable, InTwoBytes}
use Rattle.settings_write.proofs.GivenLaws.{described}
use Rattle.settings_write.proofs.WritableLaws.{each-admitted}
use Rattle.settings_write.proofs.EntryLaws.{length-entries}

-- ---- lengths

module _ (edition : ℕ) (ws bodies : List ℕ) where
  pub length-covered : length (covered edition ws bodies) ≡ place_of (size_of ws) + length bodies
  unfolding covered
  length-covered =
      let n = size_of ws in
      let t = entries ws n 0 in
      length-append (to_be 2 edition) (to_be 2 n ++ (t ++ bodies))
      ∙ omega (
        arith,
        length-append (to_be 2 n) (t ++ bodies),
        length-append t bodies,
        length-to_be 2 edition,
        length-to_be 2 n,
        length-entries ws n 0,
      )

  pub length-file : length (file_of edition ws bodies) ≡ file_length ws (length bodies)
  unfolding file_of
  length-file =
      let s = covered edition ws bodies in
      length-append s (hash s) ∙ omega (arith, length-covered, length-hash s)

-- what the contents hold has its 2 bytes
pub in-two-bytes : (ws bodies : List ℕ) → Writable ws bodies → InTwoBytes ws
in-two-bytes ws bodies w =
    let e = described ws (length bodies) w.described in
    record { numbers = λ i l. (each-admitted (given ws bodies) w.lawful i l).most; ends = omega (arith, e, w.short) }

-- ---- what the writers leave

module _ (edition : ℕ) (ws bodies d : List ℕ) where
  pub put-covered : (t u v w : List ℕ) → file_length ws (length bodies) ≤ length d → t ≡ put d 0 (to_be 2 edition)
      → u ≡ put t 2 (to_be 2 (size_of ws)) → v ≡ put u 4 (entries ws (size_of ws) 0) → w ≡ put v (place_of (size_of ws)) bodies
      → w ≡ put d 0 (covered edition ws bodies)
  unfolding covered
  put-covered t u v w h et eu ev ew =
      let n = size_of ws in
      let a = to_be 2 edition in
      let b = to_be 2 n in
      let e = entries ws n 0 in
      let la = length-to_be 2 edition in
      let lb = length-to_be 2 n in
      let le = length-entries ws n 0 in
      let lab = length-append a b in
      let labe = length-append (a ++ b) e in
      let n₁ : 2 ≡ 0 + length a = omega (arith, la) in
      let n₂ : 4 ≡ 0 + length (a ++ b) = omega (arith, la, lb, lab) in
      let n₃ : place_of n ≡ 0 + length (a ++ b ++ e) = omega (arith, la, lb, le, lab, labe) in
      put-behind d (a ++ b ++ e) bodies v w 0 (place_of n) n₃ (omega (arith, h, n₃))
      (put-behind d (a ++ b) e u v 0 4 n₂ (omega (arith, h, n₂)) (put-behind d a b t u 0 2 n₁ (omega (arith, h, n₁)) et eu) ev)
      ew
      ∙ ap (put d 0) (append_assoc (a ++ b) e bodies ∙ append_assoc a b (e ++ bodies))

  pub put-file : (n : ℕ) (v w : List ℕ) → n ≡ file_length ws (length bodies) → n ≤ length d → v ≡ put d 0 (covered edition ws bodies)
      → w ≡ put v (n - hash_length) (hash (take (n - hash_length) v)) → w ≡ put d 0 (file_of edition ws bodies)
  unfolding file_of
  put-file n v w en h ev ew =
      let s = covered edition ws bodies in
      let l = length-covered edition ws bodies in
      let k : n - hash_length ≡ 0 + length s = omega (arith, l, en) in
      let fits : 0 + length s ≤ length d = omega (arith, l, en, h) in
      let front : take (n - hash_length) v ≡ s = (λ i. take (k i) (ev i)) ∙ take_put d 0 s fits in
      put-behind d s (hash s) v w 0 (n - hash_length) k fits ev (ew ∙ ap (λ (x : List ℕ). put v (n - hash_length) (hash x)) front)
