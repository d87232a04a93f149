use mathlib.Core.List.{List}
use mathlib.Core.Path.{◌∙◌, ap}
use Prim.Native.Nat.{ℕ}
use lib.ListN.{get_or}
use lib.Seq.{get_or-drop}
use Rattle.buffers.proofs.BufferLaws.{get_or-padded, rest}
use Rattle.octets.proofs.bytes.bytes_at.Goals as goal

pub returns-in_default-first_chunk : goal.returns-in_default-first_chunk
returns-in_default-first_chunk g c k h =
    let s = c.args.s.now in
    let at = c.args.at in
    ap (λ (b : List ℕ). get_or b k 0) c.padded.ensures ∙ get_or-padded g.row.N c.in-Some.rest.now k
    ∙ ap (λ (b : List ℕ). get_or b k 0) (c.in-Some.ensures.lookup.0.2 ∙ rest s at) ∙ get_or-drop at s k 0
