-- Four chunks side by side: the rounds, a block of each, and all blocks.
-- Assumes nothing.
use mathlib.Core.Path.{◌≡◌, refl, sym, ap, ap₂, ◌∙◌}
use mathlib.Core.List.{List, [], ◌∷◌}
use Prim.Native.Nat.{ℕ, zero, suc, ◌+◌, ◌-◌, ◌*◌, ◌<◌, ◌≤◌}
use native.Mathlib.Nat.{sub-zero}
use native.Mathlib.Omega.{arith}
use lib.ListN.{length, take, drop, length-drop}
use lib.Seq.{take-take, drop-drop, length-take-le}
use Rattle.blake3_compression.specs.Compression.{first_eight, rounds, initial, final, compressed, iv}
use Rattle.blake3_compression.proofs.CompressionLaws.{rounds-more, rounds-done}
use Rattle.blake3.specs.Words.{block_words}
use Rattle.blake3.specs.Tree.{blocks, chunk, chaining_value}
use Rattle.blake3_lanes.specs.Lanes.{folded, state, message, Each, same, same_message, firsts, loaded, started, mixed, reordered, folded_states}
use Rattle.blake3_lanes.specs.Lanes.{Rounded, Blocks, chunk_at, Chunks}
use Rattle.blake3_lanes.proofs.ChunkLaws.{behind, blocks_more, last_block}

-- ---- the rounds

-- after i of seven rounds, with the others the states of w are those of v after all
pub record Turned (v w : List ℕ) (i : ℕ) : Type 0 where
  pub size : length w ≡ 128
  pub states : (j : ℕ) → j < 4 → rounds (7 - i) (state w j) (message w j) ≡ rounds 7 (state v j) (message v j)

module _ (v : List ℕ) where
  pub turned_none : length v ≡ 128 → Turned v v 0
  turned_none l = record { size = l; states = λ j h. refl }

  pub turned_more : (w x : List ℕ) (i : ℕ) → i < 7 → Turned v w i → Each mixed reordered w x → Turned v x (i + 1)
  turned_more w x i h r e =
      record {
        size = e.size;
        states = λ j l.
            ap₂ (rounds (7 - (i + 1))) (e.states j l) (e.messages j l)
            ∙ rounds-more 7 i (state w j) (message w j) h ∙ r.states j l;
      }

  pub turned-all : (w : List ℕ) (i : ℕ) → 7 ≤ i → Turned v w i → Rounded v w
  turned-all w i h r =
      record { size = r.size; states = λ j l. sym (rounds-done 7 i (state w j) (message w j) h) ∙ r.states j l }

-- ---- a block of each chunk

-- of the chaining value only the first eight words count
fold-compressed : (h m : List ℕ) (t d : ℕ)
    → first_eight (folded (rounds 7 (initial h t 64 d) m)) ≡ first_eight (compressed (first_eight h) m t 64 d)
unfolding first_eight folded initial final compressed
fold-compressed h m t d = refl

pub block-of-each : (b : List ℕ) (at t d : ℕ) (v v₁ v₂ v₃ w : List ℕ)
    → Each same (loaded b at) v v₁ → Each (started t d) same_message v₁ v₂ → Rounded v₂ v₃ → Each folded_states same_message v₃ w
    → Blocks b at t d v w
block-of-each b at t d v v₁ v₂ v₃ w e₁ e₂ e₃ e₄ =
    record {
      size = e₄.size;
      values = λ j l.
          ap first_eight
          (e₄.states j l
          ∙ ap folded
          (e₃.states j l
          ∙ ap₂ (rounds 7)
          (e₂.states j l ∙ ap (λ (h : List ℕ). initial h (t + j) 64 d) (e₁.states j l))
          (e₂.messages j l ∙ e₁.messages j l)))
          ∙ fold-compressed (state v j) (block_words (take 64 (drop (at + 1024 * j) b))) (t + j) d;
    }

-- ---- all blocks

pub take_within : (m a n : ℕ) (l : List ℕ) → a + m ≤ n → take m (drop a (take n l)) ≡ take m (drop a l)
take_within m zero n l h = take-take m n l (omega arith)
take_within m (suc a) zero l h = absurd (omega arith)
take_within m (suc a) (suc n) [] h = refl
take_within m (suc a) (suc n) (x ∷ xs) h = take_within m a n xs (omega arith)

module _ (b : List ℕ) (whole : length b ≡ 4096) (j : ℕ) (l : j < 4) where
  length-chunk : length (chunk_at b j) ≡ 1024
  length-chunk = length-take-le 1024 (drop (1024 * j) b) (omega (arith, length-drop (1024 * j) b))

  block_within : (at : ℕ) → at + 64 ≤ 1024 → take 64 (drop (at + 1024 * j) b) ≡ take 64 (drop at (chunk_at b j))
  block_within at h =
      let e : at + 1024 * j ≡ 1024 * j + at = omega arith in
      sym (take_within 64 at 1024 (drop (1024 * j) b) h ∙ ap (take 64) (drop-drop at (1024 * j) b ∙ ap (λ (n : ℕ). drop n b) (sym e)))

-- the blocks of each chunk from `at` on, behind its chaining value in w, give the whole chunk
pub record Passed (b : List ℕ) (t : ℕ) (w : List ℕ) (st at : ℕ) : Type 0 where
  pub size : length w ≡ 128
  pub chunks : (j : ℕ) → j < 4
      → blocks (behind (chunk_at b j) at) (first_eight (state w j)) (t + j) 0 st (drop at (chunk_at b j)) ≡ chunk iv 0 (t + j) (chunk_at b j)

first_block : (t : ℕ) (s : List ℕ) → blocks (behind s 0) iv t 0 1 s ≡ chunk iv 0 t s
unfolding chunk
first_block t s = rw sub-zero

module _ (b : List ℕ) (t : ℕ) (whole : length b ≡ 4096) where
  pub passed_none : (v w : List ℕ) → Each firsts same_message v w → Passed b t w 1 0
  unfolding first_eight
  passed_none v w e =
      record {
        size = e.size;
        chunks = λ j l.
            ap (λ (h : List ℕ). blocks (behind (chunk_at b j) 0) (first_eight h) (t + j) 0 1 (chunk_at b j)) (e.states j l)
            ∙ first_block (t + j) (chunk_at b j);
      }

  past-block : (w x : List ℕ) (st at : ℕ) → at + 128 ≤ 1024 → Passed b t w st at → Blocks b at t st w x → Passed b t x 0 (at + 64)
  past-block w x st at h p e =
      record {
        size = e.size;
        chunks = λ j l.
            blocks_more (first_eight (state w j)) (t + j) st (chunk_at b j) at (omega (arith, length-chunk b whole j l))
            (e.values j l
            ∙ ap (λ (s : List ℕ). first_eight (compressed (first_eight (state w j)) (block_words s) (t + j) 64 st))
            (block_within b whole j l at (omega arith)))
            ∙ p.chunks j l;
      }

  pub passed-more : (w x : List ℕ) (st i : ℕ) → i < 15 → Passed b t w st (64 * i) → Blocks b (64 * i) t st w x → Passed b t x 0 (64 * (i + 1))
  passed-more w x st i h p e =
      let n : 64 * i + 64 ≡ 64 * (i + 1) = omega arith in
      rw n at (past-block w x st (64 * i) (omega arith) p e)

  whole-chunk : (w x : List ℕ) (st at : ℕ) → at ≡ 960 → Passed b t w st at → Blocks b at t (st + 2) w x → Chunks b t x
  unfolding chaining_value
  whole-chunk w x st at h p e =
      record {
        size = e.size;
        values = λ j l.
            let n : length (chunk_at b j) - at ≡ 64 = omega (arith, length-chunk b whole j l) in
            e.values j l
            ∙ ap (λ (s : List ℕ). first_eight (compressed (first_eight (state w j)) (block_words s) (t + j) 64 (st + 2)))
            (block_within b whole j l at (omega arith))
            ∙ ap (λ (k : ℕ). first_eight (compressed (first_eight (state w j)) (block_words (take k (drop at (chunk_at b j)))) (t + j) k (st + 2))) (sym n)
            ∙ ap chaining_value
            (sym (last_block (first_eight (state w j)) (t + j) st (chunk_at b j) at (omega (arith, n))) ∙ p.chunks j l);
      }

  pub passed-all : (w x : List ℕ) (st i : ℕ) → i ≡ 15 → Passed b t w st (64 * i) → Blocks b 960 t (st + 2) w x → Chunks b t x
  passed-all w x st i h p e =
      let n : 64 * i ≡ 960 = omega arith in
      whole-chunk w x st 960 refl (rw n at p) e
