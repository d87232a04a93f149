-- Blocks as words.
-- Assumes nothing.
use Rattle.std.proofs.Common.{◌≡◌, ℕ, ◌+◌, ◌*◌, ◌%◌, ◌^◌, ◌<◌, ◌≤◌, List, ◌++◌, length, get_or, take, drop, set, sym, ap, ◌∙◌, subst, ⊎_elim, not-suc-le-zero, arith, length-set, get_or-set_other, get_or-set_same}
use Rattle.octets.specs.Buffers.{block_count, put, ◌⊞◌}
use Rattle.aes.specs.Words.{bytes, block_bytes}
use Rattle.aes.specs.declared.Block.{Block}
use Rattle.aes_circuit.proofs.Digits.{below}
use Rattle.aes_sliced.specs.Blocks.{words_at}
use Rattle.ctr.specs.Gctr.{counter_block}
use Rattle.ctr.specs.Kept.{Kept}
use Rattle.ctr.specs.Long.{set_block, Batch}
use Rattle.ctr.proofs.GctrLaws.{kept_more}

module _ (s : List ℕ) (i : ℕ) (x : Block) where
  pub length-set-block : length (set_block s i x) ≡ length s
  unfolding set_block
  length-set-block = simp length-set (omega arith)

  -- another word stays
  other : (q : ℕ) → (q ≡ 4 * i → ⊥) → (q ≡ 4 * i + 1 → ⊥) → (q ≡ 4 * i + 2 → ⊥) → (q ≡ 4 * i + 3 → ⊥) → get_or (set_block s i x) q 0 ≡ get_or s q 0
  unfolding set_block
  other q n0 n1 n2 n3 =
      let s0 = set s (4 * i) x.a in
      let s1 = set s0 (4 * i + 1) x.b in
      let s2 = set s1 (4 * i + 2) x.c in
      get_or-set_other s2 (4 * i + 3) q x.d 0 n3 ∙ get_or-set_other s1 (4 * i + 2) q x.c 0 n2
      ∙ get_or-set_other s0 (4 * i + 1) q x.b 0 n1 ∙ get_or-set_other s (4 * i) q x.a 0 n0

  pub block-kept : (j : ℕ) → j < i → words_at j (set_block s i x) ≡ words_at j s
  unfolding words_at
  block-kept j h =
      λ k. bytes (other (4 * j) (λ e. omega arith) (λ e. omega arith) (λ e. omega arith) (λ e. omega arith) k)
      ++ (bytes (other (4 * j + 1) (λ e. omega arith) (λ e. omega arith) (λ e. omega arith) (λ e. omega arith) k)
      ++ (bytes (other (4 * j + 2) (λ e. omega arith) (λ e. omega arith) (λ e. omega arith) (λ e. omega arith) k)
      ++ bytes (other (4 * j + 3) (λ e. omega arith) (λ e. omega arith) (λ e. omega arith) (λ e. omega arith) k)))

  pub block-set : 4 * i + 3 < length s → words_at i (set_block s i x) ≡ block_bytes x
  unfolding words_at set_block block_bytes
  block-set l =
      let s0 = set s (4 * i) x.a in
      let s1 = set s0 (4 * i + 1) x.b in
      let s2 = set s1 (4 * i + 2) x.c in
      let l0 : length s0 ≡ length s = length-set s (4 * i) x.a in
      let l1 : length s1 ≡ length s = length-set s0 (4 * i + 1) x.b ∙ l0 in
      let l2 : length s2 ≡ length s = length-set s1 (4 * i + 2) x.c ∙ l1 in
      let d : get_or (set s2 (4 * i + 3) x.d) (4 * i + 3) 0 ≡ x.d = get_or-set_same s2 (4 * i + 3) x.d 0 (omega arith) in
      let c : get_or (set s2 (4 * i + 3) x.d) (4 * i + 2) 0 ≡ x.c =
      get_or-set_other s2 (4 * i + 3) (4 * i + 2) x.d 0 (λ e. omega arith) ∙ get_or-set_same s1 (4 * i + 2) x.c 0 (omega arith) in
      let b : get_or (set s2 (4 * i + 3) x.d) (4 * i + 1) 0 ≡ x.b =
      get_or-set_other s2 (4 * i + 3) (4 * i + 1) x.d 0 (λ e. omega arith)
      ∙ get_or-set_other s1 (4 * i + 2) (4 * i + 1) x.c 0 (λ e. omega arith)
      ∙ get_or-set_same s0 (4 * i + 1) x.b 0 (omega arith) in
      let a : get_or (set s2 (4 * i + 3) x.d) (4 * i) 0 ≡ x.a =
      get_or-set_other s2 (4 * i + 3) (4 * i) x.d 0 (λ e. omega arith)
      ∙ get_or-set_other s1 (4 * i + 2) (4 * i) x.c 0 (λ e. omega arith)
      ∙ get_or-set_other s0 (4 * i + 1) (4 * i) x.b 0 (λ e. omega arith)
      ∙ get_or-set_same s (4 * i) x.a 0 (omega arith) in
      λ k. bytes (a k) ++ (bytes (b k) ++ (bytes (c k) ++ bytes (d k)))

-- ---- a batch

pub batch-none : (f : ℕ → List ℕ) (nonce : List ℕ) (c : ℕ) (s : List ℕ) → Batch f nonce c 0 s
batch-none f nonce c s = record { each = λ k h. absurd (not-suc-le-zero h) }

pub batch-more : (f : ℕ → List ℕ) (nonce : List ℕ) (c i : ℕ) (s s' : List ℕ) (x : Block) → length s ≡ 128 → i < 32 → Batch f nonce c i s
    → s' ≡ set_block s i x → block_bytes x ≡ f (counter_block nonce ((c + i) % 2 ^ 32)) → Batch f nonce c (i + 1) s'
batch-more f nonce c i s s' x l h b e g =
    record {
      each = λ k hk.
          ap (words_at k) e
          ∙ ⊎_elim
          (λ q. subst (λ (y : ℕ). words_at y (set_block s i x) ≡ f (counter_block nonce ((c + y) % 2 ^ 32))) (sym q) (block-set s i x (omega arith) ∙ g))
          (λ q. block-kept s i x k q ∙ b.each k q)
          (below k i (omega arith));
    }

-- ---- GCTR of a batch, block by block

pub kept_at : {ciph : ℕ → List ℕ} {nonce : List ℕ} {counter : ℕ} {all o : List ℕ} {c x i : ℕ} → x ≡ c
    → Kept ciph nonce counter all o c i → Kept ciph nonce counter all o x i
kept_at {ciph} {nonce} {counter} {all} {o} {c} {x} {i} e v = subst (λ (y : ℕ). Kept ciph nonce counter all o y i) (sym e) v

pub kept-within : {ciph : ℕ → List ℕ} {nonce : List ℕ} {counter : ℕ} {all o : List ℕ} {c i : ℕ} → Kept ciph nonce counter all o c i → i ≤ block_count o
kept-within v =
    let w = v.within in
    let z = v.size in
    omega (arith, w, z)

module _ (ciph : ℕ → List ℕ) (nonce : List ℕ) (counter : ℕ) (all : List ℕ) (c i : ℕ) where
  pub kept-start : (o : List ℕ) → Kept ciph nonce counter all o c i → Kept ciph nonce counter all o ((c + 0) % 2 ^ 32) (i + 0)
  kept-start o v =
      let f = v.fits in
      let e : c ≡ (c + 0) % 2 ^ 32 = omega (arith, f) in
      let j : i ≡ i + 0 = omega arith in
      subst (λ (x : ℕ). Kept ciph nonce counter all o x (i + 0)) e (subst (λ (x : ℕ). Kept ciph nonce counter all o c x) j v)

  pub kept_next : (s o p x : List ℕ) (k : ℕ) → k < 32 → Batch ciph nonce c 32 s → i + k < block_count all
      → Kept ciph nonce counter all o ((c + k) % 2 ^ 32) (i + k) → x ≡ words_at k s
      → p ≡ put o (16 * (i + k)) (take 16 (drop (16 * (i + k)) o) ⊞ x) → Kept ciph nonce counter all p ((c + (k + 1)) % 2 ^ 32) (i + (k + 1))
  kept_next s o p x k h b l v e q =
      let n : (c + (k + 1)) % 2 ^ 32 ≡ ((c + k) % 2 ^ 32 + 1) % 2 ^ 32 = omega arith in
      let j : i + k + 1 ≡ i + (k + 1) = omega arith in
      subst (λ (y : ℕ). Kept ciph nonce counter all p ((c + (k + 1)) % 2 ^ 32) y) j
      (kept_more ciph nonce counter all o p ((c + k) % 2 ^ 32) ((c + (k + 1)) % 2 ^ 32) (i + k) l v
      (q ∙ ap (λ (y : List ℕ). put o (16 * (i + k)) (take 16 (drop (16 * (i + k)) o) ⊞ y)) (e ∙ b.each k h)) n)
