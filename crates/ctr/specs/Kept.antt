-- How far GCTR has come in a text, in place.
use Rattle.std.specs.Prelude.{◌≡◌, ℕ, ◌-◌, ◌*◌, ◌^◌, ◌<◌, ◌≤◌, List, ◌++◌, length, take, drop}
use Rattle.octets.specs.Buffers.{block_count}
use Rattle.ctr.specs.Gctr.{gctr_blocks, gctr, counter_block}

-- the first i blocks of s are done in the text o, and c is the counter of the next one
pub record Kept (ciph : ℕ → List ℕ) (nonce : List ℕ) (counter : ℕ) (s o : List ℕ) (c i : ℕ) : Type 0 where
  pub within : i ≤ block_count s
  pub size : length o ≡ length s
  pub fits : c < 2 ^ 32
  pub rest : drop (16 * i) o ≡ drop (16 * i) s
  pub done : take (16 * i) o ++ gctr_blocks ciph (block_count s - i) (counter_block nonce c) (drop (16 * i) s) ≡ gctr ciph (counter_block nonce counter) s
