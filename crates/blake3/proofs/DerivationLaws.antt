-- The key words of the subkey's context, computed; what a derivation answers; the length of a hash.
-- Assumes nothing.
use mathlib.Core.Bool.{Bool, true, false, ◌&&◌, and-false}
use mathlib.Core.Path.{◌≡◌, refl, sym, ap, ◌∙◌}
use mathlib.Core.List.{List, [], ◌∷◌}
use Prim.Native.Nat.{ℕ, ◌<◌, ◌≤◌}
use native.Mathlib.Omega.{arith}
use borrow.Author.Tests.{le-leb, lt-leb}
use lib.Dec.{leb}
use lib.ListN.{length, replicate}
use lib.Seq.{length-take-le}
use Rattle.octets.specs.Numbers.{le}
use Rattle.octets.specs.Buffers.{Octets}
use Rattle.blake3_mixing.specs.Mixing.{add32, sum3, rotr, xor}
use Rattle.blake3_compression.specs.Compression.{first_eight, iv}
use Rattle.blake3.specs.Words.{block_words}
use Rattle.blake3_mixing.specs.Mixing.{half, G}
use Rattle.blake3_compression.specs.Compression.{initial, words_at, set_at, mix_at, columns, diagonals, one_round, permuted, rounds, final, compressed}
use Rattle.blake3.specs.Tree.{Node, blocks, chunk, tree, root_of, output_words, output, hash, context_key, derive_at, derive_key}
use Rattle.blake3.proofs.WordLaws.{length-word_bytes, octets-word_bytes}
use Rattle.blake3.specs.Derivation.{short, answer, derived, subkey_context}

abbrev pub subkey_key : List ℕ
subkey_key = 0x31ae821a ∷ 0xa375eea4 ∷ 0xea62276a ∷ 0x218e45be ∷ 0x86bb309d ∷ 0xed8ae6db ∷ 0x9af9739c ∷ 0x5f626ac7 ∷ []

pub subkey-context : context_key subkey_context ≡ subkey_key
unfolding add32 sum3 rotr xor first_eight le block_words initial half G words_at set_at mix_at columns diagonals one_round permuted rounds final compressed blocks chunk tree root_of output_words context_key
subkey-context = refl

-- so a subkey is what those key words give of the material
pub derive-subkey : (material : List ℕ) → derive_at subkey_key material ≡ derive_key subkey_context material
unfolding derive_key
derive-subkey material = ap (λ (k : List ℕ). derive_at k material) (sym subkey-context)

-- ---- what is derived is 64 bytes, and a hash 32

length-output : (n : Node) → length (output n) ≡ 64
unfolding output output_words compressed final
length-output n = length-word_bytes (output_words n 0)

octets-output : (n : Node) → Octets (output n)
unfolding output
octets-output n = octets-word_bytes (output_words n 0)

pub length-hash : (s : List ℕ) → length (hash s) ≡ 32
unfolding hash
length-hash s = let n = root_of iv 0 s in length-take-le 32 (output n) (omega (arith, length-output n))

pub length-derive_key : (context material : List ℕ) → length (derive_key context material) ≡ 64
unfolding derive_key derive_at
length-derive_key context material = length-output (root_of (context_key context) 64 material)

pub octets-derive_key : (context material : List ℕ) → Octets (derive_key context material)
unfolding derive_key derive_at
octets-derive_key context material = octets-output (root_of (context_key context) 64 material)

-- ---- the answers

module _ (context material : List ℕ) where
  pub refused-context : 64 < length context → record { ok = false; bytes = replicate 64 0 } ≡ derived context material
  unfolding derived short
  refused-context p =
      sym (ap (λ (x : Bool). answer (x && leb (length material) 64) (derive_key context material)) (lt-leb (length context) 64 p))

  pub refused-material : 64 < length material → record { ok = false; bytes = replicate 64 0 } ≡ derived context material
  unfolding derived short
  refused-material p =
      sym (ap (λ (x : Bool). answer (leb (length context) 64 && x) (derive_key context material)) (lt-leb (length material) 64 p)
      ∙ ap (λ (x : Bool). answer x (derive_key context material)) (and-false (leb (length context) 64)))

  pub derived-short : length context ≤ 64 → length material ≤ 64
      → record { ok = true; bytes = derive_key context material } ≡ derived context material
  unfolding derived short
  derived-short p q =
      sym (λ i. answer (le-leb (length context) 64 p i && le-leb (length material) 64 q i) (derive_key context material))

  -- as the code has it, from the context's key words k
  pub derived-at : {k s : List ℕ} → length context ≤ 64 → length material ≤ 64 → k ≡ context_key context → s ≡ derive_at k material
      → record { ok = true; bytes = s } ≡ derived context material
  unfolding derive_key
  derived-at p q e f =
      ap (answer true) (f ∙ ap (λ (k : List ℕ). derive_at k material) e) ∙ derived-short p q
