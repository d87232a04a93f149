use mathlib.Core.Path.{◌≡◌, ap, ◌∙◌}
use Prim.Native.Nat.{ℕ, ◌+◌, ◌-◌}
use native.Mathlib.Omega.{arith}
use lib.ListN.{take, drop}
use Rattle.blake3_compression.specs.Columns.{sixteen}
use Rattle.blake3.specs.Words.{block_words}
use Rattle.blake3_lanes.proofs.LaneLaws.{sixteen-block}
use Rattle.blake3_lanes.proofs.states.message_at.Goals as goal

pub returns : goal.returns
returns c =
    let a = c.args in
    let e : a.at + 64 - a.at ≡ 64 = omega arith in
    c.columns_of.ensures
    ∙ ap sixteen (c.block_words.ensures ∙ ap (λ (k : ℕ). block_words (take k (drop a.at a.s.now))) e)
    ∙ sixteen-block (take 64 (drop a.at a.s.now))
