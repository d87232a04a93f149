-- 32 blocks as words, four for each.
use Rattle.std.specs.Prelude.{◌≡◌, ℕ, ◌+◌, ◌*◌, ◌%◌, ◌^◌, ◌<◌, List, slice_set}
use Rattle.aes.specs.declared.Block.{Block}
use Rattle.aes_sliced.specs.Blocks.{words_at}
use Rattle.ctr.specs.Gctr.{counter_block}

-- the words of block i, written
unfoldable pub set_block : List ℕ → ℕ → Block → List ℕ
set_block s i x = slice_set (slice_set (slice_set (slice_set s (4 * i) x.a) (4 * i + 1) x.b) (4 * i + 2) x.c) (4 * i + 3) x.d

-- the first n blocks of s are f of the counter blocks from c on
pub record Batch (f : ℕ → List ℕ) (nonce : List ℕ) (c n : ℕ) (s : List ℕ) : Type 0 where
  pub each : (k : ℕ) → k < n → words_at k s ≡ f (counter_block nonce ((c + k) % 2 ^ 32))
