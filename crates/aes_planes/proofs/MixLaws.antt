-- A round on planes is FIPS 197's round of each block.
-- Assumes nothing.
use mathlib.Core.Path.{◌≡◌, refl, sym, ap, ap₂, ◌∙◌}
use mathlib.Core.List.{List, [], ◌∷◌}
use Prim.Native.Nat.{ℕ, ◌+◌, ◌*◌, ◌%◌, ◌<◌}
use native.Mathlib.Omega.{arith}
use lib.Bits.{bit_xor, xor_comm}
use lib.Dec.{lit<, lit≤, eqb, eqb→eq}
use lib.ListN.{length, get_or}
use Rattle.octets.specs.Buffers.{◌⊞◌}
use Rattle.octets.proofs.Table.{at_each}
use Rattle.octets.proofs.XorLaws.{xor_assoc}
use Rattle.aes_tables.specs.Field.{◌⊕◌, x_times, times, ◌•◌}
use Rattle.aes_tables.specs.SBox.{s_box}
use Rattle.aes_tables.proofs.Products.{product-linear}
use Rattle.aes.specs.Cipher.{at, state, by_column, sub_bytes, shift_rows, mix_column, mix_columns}
use Rattle.aes_circuit.specs.Circuit.{byte_at}
use Rattle.aes_circuit.specs.Planes.{bits_from, planes, xor_bits, double_bits}
use Rattle.aes_circuit.specs.declared.Bits.{Bits}
use Rattle.aes_circuit.proofs.SBoxLaws.{byte_at-lt}
use Rattle.aes_circuit.proofs.PlaneLaws.{bits-from, xor-planes, double-planes}
use Rattle.aes_planes.specs.Mix.{sums_of, both_of, row_of, key_row_of, mixed_of, sum_row, bit_of, columns_of, last_of}
use Rattle.aes_planes.specs.Rows.{Holds}
use Rattle.aes_planes.specs.State.{cell, sub_cell, key_cell, block_at, key_at, Substituted}
use Rattle.aes_planes.specs.declared.mix.Quad.{Quad}
use Rattle.aes_planes.proofs.PlaceLaws.{doubled_of, quad_of, last_quad, columns-hold, last-hold}

-- ---- bytes: the row's sum as FIPS 197 writes it

triple : (b : ℕ) → b < 256 → 2 • b ⊕ b ≡ 3 • b
unfolding x_times times ◌•◌
triple b h = eqb→eq _ _ (at_each 256 (λ n. eqb (bit_xor (2 • n) n) (3 • n)) tt b h)

row-sum : (a b c d : ℕ) → a < 256 → b < 256 → 2 • (a ⊕ b) ⊕ b ⊕ (c ⊕ d) ≡ 2 • a ⊕ 3 • b ⊕ c ⊕ d
row-sum a b c d ha hb =
    ap (λ (x : ℕ). x ⊕ (c ⊕ d))
    (ap (λ (x : ℕ). x ⊕ b) (product-linear 2 a b ha hb) ∙ xor_assoc (2 • a) (2 • b) b ∙ ap (λ (x : ℕ). 2 • a ⊕ x) (triple b hb))
    ∙ sym (xor_assoc (2 • a ⊕ 3 • b) c d)

-- the last summand first
turn : (p q r s : ℕ) → p ⊕ q ⊕ r ⊕ s ≡ s ⊕ p ⊕ q ⊕ r
turn p q r s = xor_comm (p ⊕ q ⊕ r) s ∙ sym (xor_assoc s (p ⊕ q) r) ∙ ap (λ (x : ℕ). x ⊕ r) (sym (xor_assoc s p q))

-- ---- planes: a row of a column

unfoldable mix_row : Bits → Bits → Bits → Bits → Bits → Bits
mix_row a b c e k = xor_bits (xor_bits (xor_bits (double_bits (xor_bits a b)) b) (xor_bits c e)) k

mix_row-byte : (a b c e κ : Bits) (k : ℕ)
    → byte_at k (mix_row a b c e κ) ≡ 2 • byte_at k a ⊕ 3 • byte_at k b ⊕ byte_at k c ⊕ byte_at k e ⊕ byte_at k κ
unfolding mix_row
mix_row-byte a b c e κ k =
    xor-planes (xor_bits (xor_bits (double_bits (xor_bits a b)) b) (xor_bits c e)) κ k
    ∙ ap (λ (x : ℕ). x ⊕ byte_at k κ)
    (xor-planes (xor_bits (double_bits (xor_bits a b)) b) (xor_bits c e) k
    ∙ ap₂ bit_xor
    (xor-planes (double_bits (xor_bits a b)) b k
    ∙ ap (λ (x : ℕ). x ⊕ byte_at k b) (double-planes (xor_bits a b) k ∙ ap (λ (x : ℕ). 2 • x) (xor-planes a b k)))
    (xor-planes c e k)
    ∙ row-sum (byte_at k a) (byte_at k b) (byte_at k c) (byte_at k e) (byte_at-lt a k) (byte_at-lt b k))

-- ---- the planes that a row is read from, and where it stands

module _ (t : List ℕ) (c : ℕ) where
  read_a : bits_from (λ i. (row_of t (8 * i + c)).a) ≡ planes 8 t (64 * 0 + c)
  unfolding row_of planes
  read_a = bits-from _ _ (λ i h. let e : 8 * i + c ≡ 64 * 0 + c + i * 8 = omega arith in ap (λ (m : ℕ). get_or t m 0) e)

  read-b : bits_from (λ i. (row_of t (8 * i + c)).b) ≡ planes 8 t (64 * 1 + (c + 1))
  unfolding row_of planes
  read-b = bits-from _ _ (λ i h. let e : 8 * i + c + 65 ≡ 64 * 1 + (c + 1) + i * 8 = omega arith in ap (λ (m : ℕ). get_or t m 0) e)

  read-c : bits_from (λ i. (row_of t (8 * i + c)).c) ≡ planes 8 t (64 * 2 + (c + 2))
  unfolding row_of planes
  read-c = bits-from _ _ (λ i h. let e : 8 * i + c + 130 ≡ 64 * 2 + (c + 2) + i * 8 = omega arith in ap (λ (m : ℕ). get_or t m 0) e)

  read-e : bits_from (λ i. (row_of t (8 * i + c)).e) ≡ planes 8 t (64 * 3 + (c + 3))
  unfolding row_of planes
  read-e = bits-from _ _ (λ i h. let e : 8 * i + c + 195 ≡ 64 * 3 + (c + 3) + i * 8 = omega arith in ap (λ (m : ℕ). get_or t m 0) e)

module _ (κ : List ℕ) (n c : ℕ) where
  key-a : bits_from (λ i. (key_row_of κ (60 * i + n + c)).a) ≡ planes 60 κ (480 * 0 + (n + c))
  unfolding key_row_of planes
  key-a = bits-from _ _ (λ i h. let e : 60 * i + n + c ≡ 480 * 0 + (n + c) + i * 60 = omega arith in ap (λ (m : ℕ). get_or κ m 0) e)

  key-b : bits_from (λ i. (key_row_of κ (60 * i + n + c)).b) ≡ planes 60 κ (480 * 1 + (n + c))
  unfolding key_row_of planes
  key-b = bits-from _ _ (λ i h. let e : 60 * i + n + c + 480 ≡ 480 * 1 + (n + c) + i * 60 = omega arith in ap (λ (m : ℕ). get_or κ m 0) e)

  key-c : bits_from (λ i. (key_row_of κ (60 * i + n + c)).c) ≡ planes 60 κ (480 * 2 + (n + c))
  unfolding key_row_of planes
  key-c = bits-from _ _ (λ i h. let e : 60 * i + n + c + 960 ≡ 480 * 2 + (n + c) + i * 60 = omega arith in ap (λ (m : ℕ). get_or κ m 0) e)

  key-e : bits_from (λ i. (key_row_of κ (60 * i + n + c)).e) ≡ planes 60 κ (480 * 3 + (n + c))
  unfolding key_row_of planes
  key-e = bits-from _ _ (λ i h. let e : 60 * i + n + c + 1440 ≡ 480 * 3 + (n + c) + i * 60 = omega arith in ap (λ (m : ℕ). get_or κ m 0) e)

module _ (s : List ℕ) (c : ℕ) (q : ℕ → Quad) (h : (i : ℕ) → i < 8 → Holds s (4 * i + c) (q i)) where
  stands-a : planes 4 s (32 * 0 + c) ≡ bits_from (λ i. (q i).a)
  unfolding planes
  stands-a = bits-from _ _ (λ i l. let e : 32 * 0 + c + i * 4 ≡ 4 * i + c = omega arith in ap (λ (m : ℕ). get_or s m 0) e ∙ (h i l).in-a)

  stands_b : planes 4 s (32 * 1 + c) ≡ bits_from (λ i. (q i).b)
  unfolding planes
  stands_b = bits-from _ _ (λ i l. let e : 32 * 1 + c + i * 4 ≡ 4 * i + c + 32 = omega arith in ap (λ (m : ℕ). get_or s m 0) e ∙ (h i l).in_b)

  stands-c : planes 4 s (32 * 2 + c) ≡ bits_from (λ i. (q i).c)
  unfolding planes
  stands-c = bits-from _ _ (λ i l. let e : 32 * 2 + c + i * 4 ≡ 4 * i + c + 64 = omega arith in ap (λ (m : ℕ). get_or s m 0) e ∙ (h i l).in_c)

  stands-e : planes 4 s (32 * 3 + c) ≡ bits_from (λ i. (q i).e)
  unfolding planes
  stands-e = bits-from _ _ (λ i l. let e : 32 * 3 + c + i * 4 ≡ 4 * i + c + 96 = omega arith in ap (λ (m : ℕ). get_or s m 0) e ∙ (h i l).in_e)

-- ---- the cells of a column after the round

module _ (t κ : List ℕ) (n c : ℕ) where
  A : Bits
  A = bits_from (λ i. (row_of t (8 * i + c)).a)

  B : Bits
  B = bits_from (λ i. (row_of t (8 * i + c)).b)

  C : Bits
  C = bits_from (λ i. (row_of t (8 * i + c)).c)

  E : Bits
  E = bits_from (λ i. (row_of t (8 * i + c)).e)

  quad-a : bits_from (λ i. (quad_of t κ n c i).a) ≡ mix_row A B C E (bits_from (λ i. (key_row_of κ (60 * i + n + c)).a))
  unfolding A B C E bits_from quad_of bit_of mixed_of doubled_of sum_row sums_of both_of mix_row xor_bits double_bits
  quad-a = refl

  quad-b : bits_from (λ i. (quad_of t κ n c i).b) ≡ mix_row B C E A (bits_from (λ i. (key_row_of κ (60 * i + n + c)).b))
  unfolding A B C E bits_from quad_of bit_of mixed_of doubled_of sum_row sums_of both_of mix_row xor_bits double_bits
  quad-b = refl

  quad-c : bits_from (λ i. (quad_of t κ n c i).c) ≡ mix_row C E A B (bits_from (λ i. (key_row_of κ (60 * i + n + c)).c))
  unfolding A B C E bits_from quad_of bit_of mixed_of doubled_of sum_row sums_of both_of mix_row xor_bits double_bits
  quad-c = refl

  quad-e : bits_from (λ i. (quad_of t κ n c i).e) ≡ mix_row E A B C (bits_from (λ i. (key_row_of κ (60 * i + n + c)).e))
  unfolding A B C E bits_from quad_of bit_of mixed_of doubled_of sum_row sums_of both_of mix_row xor_bits double_bits
  quad-e = refl

module _ (s t κ : List ℕ) (n c k : ℕ) (l : length s ≡ 128) (hc : c < 4) where
  held : (i : ℕ) → i < 8 → Holds (columns_of s t κ n 4) (4 * i + c) (quad_of t κ n c i)
  held i hi = columns-hold s t κ n l 4 (lit≤ tt) c i hc hi

  cell-a : cell k (columns_of s t κ n 4) 0 c
      ≡ 2 • sub_cell k t 0 c ⊕ 3 • sub_cell k t 1 (c + 1) ⊕ sub_cell k t 2 (c + 2) ⊕ sub_cell k t 3 (c + 3) ⊕ key_cell k κ n 0 c
  unfolding cell sub_cell key_cell A B C E
  cell-a =
      ap (byte_at k)
      (stands-a (columns_of s t κ n 4) c (quad_of t κ n c) held ∙ quad-a t κ n c
      ∙ (λ i. mix_row (read_a t c i) (read-b t c i) (read-c t c i) (read-e t c i) (key-a κ n c i)))
      ∙ mix_row-byte _ _ _ _ _ k

  cell-b : cell k (columns_of s t κ n 4) 1 c
      ≡ sub_cell k t 0 c ⊕ 2 • sub_cell k t 1 (c + 1) ⊕ 3 • sub_cell k t 2 (c + 2) ⊕ sub_cell k t 3 (c + 3) ⊕ key_cell k κ n 1 c
  unfolding cell sub_cell key_cell A B C E
  cell-b =
      ap (byte_at k)
      (stands_b (columns_of s t κ n 4) c (quad_of t κ n c) held ∙ quad-b t κ n c
      ∙ (λ i. mix_row (read-b t c i) (read-c t c i) (read-e t c i) (read_a t c i) (key-b κ n c i)))
      ∙ mix_row-byte _ _ _ _ _ k
      ∙ ap (λ (x : ℕ). x ⊕ key_cell k κ n 1 c)
      (turn (2 • sub_cell k t 1 (c + 1)) (3 • sub_cell k t 2 (c + 2)) (sub_cell k t 3 (c + 3)) (sub_cell k t 0 c))

  cell-c : cell k (columns_of s t κ n 4) 2 c
      ≡ sub_cell k t 0 c ⊕ sub_cell k t 1 (c + 1) ⊕ 2 • sub_cell k t 2 (c + 2) ⊕ 3 • sub_cell k t 3 (c + 3) ⊕ key_cell k κ n 2 c
  unfolding cell sub_cell key_cell A B C E
  cell-c =
      ap (byte_at k)
      (stands-c (columns_of s t κ n 4) c (quad_of t κ n c) held ∙ quad-c t κ n c
      ∙ (λ i. mix_row (read-c t c i) (read-e t c i) (read_a t c i) (read-b t c i) (key-c κ n c i)))
      ∙ mix_row-byte _ _ _ _ _ k
      ∙ ap (λ (x : ℕ). x ⊕ key_cell k κ n 2 c)
      (turn (2 • sub_cell k t 2 (c + 2)) (3 • sub_cell k t 3 (c + 3)) (sub_cell k t 0 c) (sub_cell k t 1 (c + 1))
      ∙ turn (sub_cell k t 1 (c + 1)) (2 • sub_cell k t 2 (c + 2)) (3 • sub_cell k t 3 (c + 3)) (sub_cell k t 0 c))

  cell-e : cell k (columns_of s t κ n 4) 3 c
      ≡ 3 • sub_cell k t 0 c ⊕ sub_cell k t 1 (c + 1) ⊕ sub_cell k t 2 (c + 2) ⊕ 2 • sub_cell k t 3 (c + 3) ⊕ key_cell k κ n 3 c
  unfolding cell sub_cell key_cell A B C E
  cell-e =
      ap (byte_at k)
      (stands-e (columns_of s t κ n 4) c (quad_of t κ n c) held ∙ quad-e t κ n c
      ∙ (λ i. mix_row (read-e t c i) (read_a t c i) (read-b t c i) (read-c t c i) (key-e κ n c i)))
      ∙ mix_row-byte _ _ _ _ _ k
      ∙ ap (λ (x : ℕ). x ⊕ key_cell k κ n 3 c)
      (turn (2 • sub_cell k t 3 (c + 3)) (3 • sub_cell k t 0 c) (sub_cell k t 1 (c + 1)) (sub_cell k t 2 (c + 2))
      ∙ turn (sub_cell k t 2 (c + 2)) (2 • sub_cell k t 3 (c + 3)) (3 • sub_cell k t 0 c) (sub_cell k t 1 (c + 1))
      ∙ turn (sub_cell k t 1 (c + 1)) (sub_cell k t 2 (c + 2)) (2 • sub_cell k t 3 (c + 3)) (3 • sub_cell k t 0 c))

-- ---- a round of each block

module _ (s₀ s t κ : List ℕ) (n k : ℕ) (l : length s ≡ 128) (hk : k < 32) (p : Substituted s₀ t) where
  sub : (r c : ℕ) → r < 4 → c < 8 → sub_cell k t r c ≡ s_box (cell k s₀ r (c % 4))
  sub r c hr hc = p.each k r c hk hr hc

  pub mix-block : block_at k (columns_of s t κ n 4) ≡ mix_columns (shift_rows (sub_bytes (block_at k s₀))) ⊞ key_at k κ n
  unfolding block_at key_at state at by_column mix_column mix_columns shift_rows sub_bytes ◌⊞◌
  mix-block =
      λ i. ea 0 (lit< tt) i ∷ eb 0 (lit< tt) i ∷ ec 0 (lit< tt) i ∷ ee 0 (lit< tt) i
      ∷ ea 1 (lit< tt) i ∷ eb 1 (lit< tt) i ∷ ec 1 (lit< tt) i ∷ ee 1 (lit< tt) i
      ∷ ea 2 (lit< tt) i ∷ eb 2 (lit< tt) i ∷ ec 2 (lit< tt) i ∷ ee 2 (lit< tt) i
      ∷ ea 3 (lit< tt) i ∷ eb 3 (lit< tt) i ∷ ec 3 (lit< tt) i ∷ ee 3 (lit< tt) i ∷ []
    where
      s0 : (c : ℕ) → c < 4 → sub_cell k t 0 c ≡ s_box (cell k s₀ 0 (c % 4))
      s0 c h = sub 0 c (lit< tt) (omega arith)

      s1 : (c : ℕ) → c < 4 → sub_cell k t 1 (c + 1) ≡ s_box (cell k s₀ 1 ((c + 1) % 4))
      s1 c h = sub 1 (c + 1) (lit< tt) (omega arith)

      s2 : (c : ℕ) → c < 4 → sub_cell k t 2 (c + 2) ≡ s_box (cell k s₀ 2 ((c + 2) % 4))
      s2 c h = sub 2 (c + 2) (lit< tt) (omega arith)

      s3 : (c : ℕ) → c < 4 → sub_cell k t 3 (c + 3) ≡ s_box (cell k s₀ 3 ((c + 3) % 4))
      s3 c h = sub 3 (c + 3) (lit< tt) (omega arith)

      ea : (c : ℕ) → c < 4 → cell k (columns_of s t κ n 4) 0 c
          ≡ 2 • s_box (cell k s₀ 0 (c % 4)) ⊕ 3 • s_box (cell k s₀ 1 ((c + 1) % 4)) ⊕ s_box (cell k s₀ 2 ((c + 2) % 4)) ⊕ s_box (cell k s₀ 3 ((c + 3) % 4)) ⊕ key_cell k κ n 0 c
      ea c h = cell-a s t κ n c k l h ∙ (λ i. 2 • s0 c h i ⊕ 3 • s1 c h i ⊕ s2 c h i ⊕ s3 c h i ⊕ key_cell k κ n 0 c)

      eb : (c : ℕ) → c < 4 → cell k (columns_of s t κ n 4) 1 c
          ≡ s_box (cell k s₀ 0 (c % 4)) ⊕ 2 • s_box (cell k s₀ 1 ((c + 1) % 4)) ⊕ 3 • s_box (cell k s₀ 2 ((c + 2) % 4)) ⊕ s_box (cell k s₀ 3 ((c + 3) % 4)) ⊕ key_cell k κ n 1 c
      eb c h = cell-b s t κ n c k l h ∙ (λ i. s0 c h i ⊕ 2 • s1 c h i ⊕ 3 • s2 c h i ⊕ s3 c h i ⊕ key_cell k κ n 1 c)

      ec : (c : ℕ) → c < 4 → cell k (columns_of s t κ n 4) 2 c
          ≡ s_box (cell k s₀ 0 (c % 4)) ⊕ s_box (cell k s₀ 1 ((c + 1) % 4)) ⊕ 2 • s_box (cell k s₀ 2 ((c + 2) % 4)) ⊕ 3 • s_box (cell k s₀ 3 ((c + 3) % 4)) ⊕ key_cell k κ n 2 c
      ec c h = cell-c s t κ n c k l h ∙ (λ i. s0 c h i ⊕ s1 c h i ⊕ 2 • s2 c h i ⊕ 3 • s3 c h i ⊕ key_cell k κ n 2 c)

      ee : (c : ℕ) → c < 4 → cell k (columns_of s t κ n 4) 3 c
          ≡ 3 • s_box (cell k s₀ 0 (c % 4)) ⊕ s_box (cell k s₀ 1 ((c + 1) % 4)) ⊕ s_box (cell k s₀ 2 ((c + 2) % 4)) ⊕ 2 • s_box (cell k s₀ 3 ((c + 3) % 4)) ⊕ key_cell k κ n 3 c
      ee c h = cell-e s t κ n c k l h ∙ (λ i. 3 • s0 c h i ⊕ s1 c h i ⊕ s2 c h i ⊕ 2 • s3 c h i ⊕ key_cell k κ n 3 c)

  pub last_block : block_at k (last_of s t κ n 8) ≡ shift_rows (sub_bytes (block_at k s₀)) ⊞ key_at k κ n
  unfolding block_at key_at cell sub_cell key_cell state at shift_rows sub_bytes ◌⊞◌ last_quad both_of xor_bits bits_from
  last_block =
      λ i. ea 0 (lit< tt) i ∷ eb 0 (lit< tt) i ∷ ec 0 (lit< tt) i ∷ ee 0 (lit< tt) i
      ∷ ea 1 (lit< tt) i ∷ eb 1 (lit< tt) i ∷ ec 1 (lit< tt) i ∷ ee 1 (lit< tt) i
      ∷ ea 2 (lit< tt) i ∷ eb 2 (lit< tt) i ∷ ec 2 (lit< tt) i ∷ ee 2 (lit< tt) i
      ∷ ea 3 (lit< tt) i ∷ eb 3 (lit< tt) i ∷ ec 3 (lit< tt) i ∷ ee 3 (lit< tt) i ∷ []
    where
      h : (c : ℕ) → c < 4 → (i : ℕ) → i < 8 → Holds (last_of s t κ n 8) (4 * i + c) (last_quad t κ n c i)
      h c hc i hi = last-hold s t κ n l 8 (lit≤ tt) i c hi hc

      ea : (c : ℕ) → c < 4 → cell k (last_of s t κ n 8) 0 c ≡ s_box (cell k s₀ 0 (c % 4)) ⊕ key_cell k κ n 0 c
      ea c hc =
          ap (byte_at k) (stands-a (last_of s t κ n 8) c (last_quad t κ n c) (h c hc) ∙ (λ i. xor_bits (read_a t c i) (key-a κ n c i)))
          ∙ xor-planes _ _ k ∙ ap (λ (x : ℕ). x ⊕ key_cell k κ n 0 c) (sub 0 c (lit< tt) (omega arith))

      eb : (c : ℕ) → c < 4 → cell k (last_of s t κ n 8) 1 c ≡ s_box (cell k s₀ 1 ((c + 1) % 4)) ⊕ key_cell k κ n 1 c
      eb c hc =
          ap (byte_at k) (stands_b (last_of s t κ n 8) c (last_quad t κ n c) (h c hc) ∙ (λ i. xor_bits (read-b t c i) (key-b κ n c i)))
          ∙ xor-planes _ _ k ∙ ap (λ (x : ℕ). x ⊕ key_cell k κ n 1 c) (sub 1 (c + 1) (lit< tt) (omega arith))

      ec : (c : ℕ) → c < 4 → cell k (last_of s t κ n 8) 2 c ≡ s_box (cell k s₀ 2 ((c + 2) % 4)) ⊕ key_cell k κ n 2 c
      ec c hc =
          ap (byte_at k) (stands-c (last_of s t κ n 8) c (last_quad t κ n c) (h c hc) ∙ (λ i. xor_bits (read-c t c i) (key-c κ n c i)))
          ∙ xor-planes _ _ k ∙ ap (λ (x : ℕ). x ⊕ key_cell k κ n 2 c) (sub 2 (c + 2) (lit< tt) (omega arith))

      ee : (c : ℕ) → c < 4 → cell k (last_of s t κ n 8) 3 c ≡ s_box (cell k s₀ 3 ((c + 3) % 4)) ⊕ key_cell k κ n 3 c
      ee c hc =
          ap (byte_at k) (stands-e (last_of s t κ n 8) c (last_quad t κ n c) (h c hc) ∙ (λ i. xor_bits (read-e t c i) (key-e κ n c i)))
          ∙ xor-planes _ _ k ∙ ap (λ (x : ℕ). x ⊕ key_cell k κ n 3 c) (sub 3 (c + 3) (lit< tt) (omega arith))
