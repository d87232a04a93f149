use mathlib.Core.Path.{refl, ap, ◌∙◌}
use Prim.Native.Nat.{◌+◌, ◌-◌, ◌≤◌}
use native.Mathlib.Omega.{arith}
use lib.ListN.{length}
use Rattle.octets.specs.Buffers.{put}
use Rattle.recording.specs.Format.{place_of}
use Rattle.recording.proofs.WrittenLaws.{size}
use Rattle.mending.specs.Report.{report_from, words}
use Rattle.mending.proofs.PutLaws.{length-entry}
use Rattle.mending.proofs.LoopLaws.{all_left, turn_small, mended-turn, room-turn, put-turn, ends-turn, none-mended, written_all}
use Rattle.mending.proofs.mend_entries.Goals as goal

pub loop-i-init : goal.loop-i-init
loop-i-init c =
    let all = all_left c.args.n c.args.s.now 0 (place_of c.args.n) refl in (
      omega arith,
      omega arith,
      refl,
      refl,
      all.0,
      ap (λ x. put c.args.out.now c.args.at (words x)) all.1,
      ap (λ x. c.args.at + length (words x)) all.1,
    )

pub mended_entry-f-requires : goal.mended_entry-f-requires
mended_entry-f-requires c = (omega arith, omega arith)

pub put_entry_changes-end-requires : goal.put_entry_changes-end-requires
put_entry_changes-end-requires c =
    room-turn _ c.loop-i.i c.loop-i.place _ _ c.read_entry-e.ensures c.mended_entry-f.ensures c.args.n (omega arith) (omega arith)
    _ refl c.loop-i.out c.loop-i.end (omega (arith, c.loop-i.invariant.3, c.loop-i.invariant.6, c.requires.n_in_bounds))

pub put_entry-requires : goal.put_entry-requires
put_entry-requires c = omega arith

pub overflow_add-place-in-loop-i : goal.overflow_add-place-in-loop-i
overflow_add-place-in-loop-i c =
    record { fits = omega (arith, (turn_small _ _ _ _ _ c.read_entry-e.ensures c.mended_entry-f.ensures).0) }

pub loop-i-preserved : goal.loop-i-preserved
loop-i-preserved c =
    let fits : place_of c.loop-i.i + 15 ≤ length c.loop-i.s = omega arith in
    let room : c.loop-i.end + length (words (report_from (c.args.n - c.loop-i.i) c.loop-i.s c.loop-i.i c.loop-i.place)) ≤ length c.loop-i.out =
    omega (arith, c.loop-i.invariant.3, c.loop-i.invariant.6, c.requires.n_in_bounds) in
    let small = turn_small c.loop-i.s c.loop-i.i c.loop-i.place _ _ c.read_entry-e.ensures c.mended_entry-f.ensures in
    let long = ap length c.put_entry.ensures ∙ length-entry c.loop-i.s _ _ fits in (
      omega (arith, small.1, long),
      omega (arith, small.0),
      long ∙ c.loop-i.invariant.2,
      size c.put_entry_changes-end.ensures ∙ c.loop-i.invariant.3,
      mended-turn c.loop-i.s c.loop-i.i c.loop-i.place _ _ c.read_entry-e.ensures c.mended_entry-f.ensures c.args.n (omega arith) fits _ c.put_entry.ensures ∙ c.loop-i.invariant.4,
      put-turn c.loop-i.s c.loop-i.i c.loop-i.place _ _ c.read_entry-e.ensures c.mended_entry-f.ensures c.args.n (omega arith) fits _ c.put_entry.ensures c.loop-i.out c.loop-i.end room _ _ c.put_entry_changes-end.ensures ∙ c.loop-i.invariant.5,
      ends-turn c.loop-i.s c.loop-i.i c.loop-i.place _ _ c.read_entry-e.ensures c.mended_entry-f.ensures c.args.n (omega arith) fits _ c.put_entry.ensures c.loop-i.out c.loop-i.end room _ _ c.put_entry_changes-end.ensures ∙ c.loop-i.invariant.6,
    )

pub returns : goal.returns
returns c = record {
  s_after = none-mended c.args.n c.loop-i.s c.loop-i.i c.loop-i.place (omega arith) ∙ c.loop-i.invariant.4;
  written = written_all c.args.n c.loop-i.s c.loop-i.i c.loop-i.place (omega arith) c.args.out.now _ _ _ _ c.requires.n_in_bounds c.loop-i.invariant.5
      c.loop-i.invariant.6;
}

pub shape_of-s : goal.shape_of-s
shape_of-s c = c.loop-i.invariant.2

pub shape_of-out : goal.shape_of-out
shape_of-out c = c.loop-i.invariant.3
