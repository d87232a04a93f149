use mathlib.Core.Path.{ap, ◌∙◌}
use mathlib.Core.List.{List}
use Prim.Native.Nat.{ℕ, ◌+◌}
use Rattle.blake3_lanes.specs.Lanes.{set_column, set_columns}
use Rattle.blake3_lanes.proofs.store.Goals as goal

pub returns : goal.returns
unfolding set_columns
returns c =
    let a = c.args in
    let i = c.args.i in
    let j = c.args.j in
    let t = c.args.t in
    c.store_column-4.ensures
    ∙ ap (λ (v : List ℕ). set_column v (i + 3) j t.s)
    (c.store_column-3.ensures
    ∙ ap (λ (v : List ℕ). set_column v (i + 2) j t.r)
    (c.store_column-2.ensures ∙ ap (λ (v : List ℕ). set_column v (i + 1) j t.q) c.store_column.ensures))
