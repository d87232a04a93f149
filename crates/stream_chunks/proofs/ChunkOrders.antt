-- The order of refusals of a piece that is opened, and of the sizes of one that is sealed.
-- Assumes nothing.
use Rattle.std.specs.Prelude.{Result}
use mathlib.Core.Path.{◌≡◌, refl}
use mathlib.Core.Bool.{not}
use mathlib.Core.List.{List, [], ◌∷◌}
use Prim.Native.Nat.{ℕ, ◌+◌, ◌-◌, ◌^◌}
use lib.Dec.{eqb, leb, ltb}
use lib.ListN.{length, take}
use Rattle.protocol.specs.Orders.{Rule, rule, more, first}
use Rattle.protocol.proofs.OrderLaws.{next, unless, done, under}
use Rattle.stream_pieces.specs.Pieces.{authentic_at, Keyed}
use Rattle.stream_seal.specs.declared.Sender.{Sender}
use Rattle.stream_seal.specs.Sealing.{size_answer}
use Rattle.stream_open.specs.declared.Chunk.{Chunk}
use Rattle.stream_open.specs.Steps.{piece_answer}
use Rattle.stream_chunks.specs.Orders.{said_step, said_piece}
use Rattle.protocol.specs.declared.Refusal.{Refusal}

module _ (key : Keyed) (counter : ℕ) (s : List ℕ) (room : ℕ) where
  -- 11, 10, 3, 4 of a piece of n bytes of plaintext, and what is said of it then
  pub piece-order : (n asked : ℕ) (good : Result Chunk Refusal) (rs : List Rule) (c : Chunk) → said_step good ≡ first rs c
      → said_step (piece_answer key counter n s asked room good)
      ≡ first
      (rule 11 (eqb counter (2 ^ 64 - 1)) ∷ more (n + 16) (ltb (length s) (n + 16)) ∷ rule 3 (ltb room asked)
      ∷ rule 4 (not (authentic_at key counter (take (n + 16) s))) ∷ rs)
      c
  unfolding piece_answer
  piece-order n asked good rs c said =
      unless said_step (eqb counter (2 ^ 64 - 1)) _ _ c refl refl λ _.
      next said_step (leb (n + 16) (length s)) _ _ c (under (length s) (n + 16)) refl λ _.
      next said_step (leb asked room) _ _ c (under room asked) refl λ _.
      next said_step (authentic_at key counter (take (n + 16) s)) _ rs c refl refl λ _. said

-- 2 and 3 of a piece of n bytes, at most so many, behind others
pub size-order : (greatest n before room : ℕ) (s : Sender)
    → said_piece (size_answer greatest n before room s)
    ≡ first (rule 2 (ltb greatest n) ∷ rule 3 (ltb room (before + n + 16)) ∷ []) (before + n + 16, s)
unfolding size_answer
size-order greatest n before room s =
    next said_piece (leb n greatest) _ _ _ (under greatest n) refl λ _.
    next said_piece (leb (before + n + 16) room) _ [] _ (under room (before + n + 16)) refl λ _. done _
