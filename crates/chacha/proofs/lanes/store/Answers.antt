use Rattle.std.proofs.Common.{ℕ, List, ap, ◌∙◌}
use Rattle.chacha.specs.Lanes.{set_column, set_lane}
use Rattle.chacha.proofs.lanes.store.Goals as goal

pub returns : goal.returns
unfolding set_lane
returns c =
    let j = c.args.j in
    let t = c.args.t in
    c.store_column-4.ensures
    ∙ ap (λ (v : List ℕ). set_column v 3 j t.s)
    (c.store_column-3.ensures
    ∙ ap (λ (v : List ℕ). set_column v 2 j t.r)
    (c.store_column-2.ensures ∙ ap (λ (v : List ℕ). set_column v 1 j t.q) c.store_column.ensures))
