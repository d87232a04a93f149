-- What a writer leaves that gives the place behind what it wrote: xs stands in d' from a place of d on, all else is as it was, and r is the place behind xs.
-- Assumes nothing.
use Rattle.std.specs.Prelude.{◌≡◌, List, ℕ, ◌+◌, ◌≤◌, length}
use Rattle.octets.specs.Buffers.{put}

pub record Written (d : List ℕ) (at : ℕ) (d' : List ℕ) (r : ℕ) (xs : List ℕ) : Type 0 where
  pub fits : at + length xs ≤ length d
  pub ends : r ≡ at + length xs
  pub puts : d' ≡ put d at xs
