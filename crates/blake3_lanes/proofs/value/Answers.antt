use mathlib.Core.Path.{ap, ◌∙◌}
use Rattle.blake3_compression.specs.Compression.{first_eight}
use Rattle.blake3_compression.specs.declared.State.{State}
use Rattle.blake3_compression.specs.Columns.{words}
use Rattle.blake3_lanes.proofs.LaneLaws.{state-loaded}
use Rattle.blake3_lanes.proofs.value.Goals as goal

pub returns : goal.returns
unfolding first_eight words
returns c =
    let a = c.args in
    ap (λ (t : State). first_eight (words t)) c.load-t.ensures ∙ ap first_eight (state-loaded a.x.now a.j)
