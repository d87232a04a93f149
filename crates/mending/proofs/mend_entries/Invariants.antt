-- `mending::mend_entries` meets its contract: what is mended and written, with what is left, is the whole.
-- Assumes nothing.
use mathlib.Core.Path.{◌≡◌}
use Prim.Native.Nat.{◌+◌, ◌*◌, ◌-◌, ◌≤◌}
use lib.ListN.{length}
use Rattle.octets.specs.Buffers.{put}
use Rattle.recording.specs.Format.{place_of}
use Rattle.mending.specs.Mend.{mended_from}
use Rattle.mending.specs.Report.{report_from, words}
use Rattle.mending.proofs.mend_entries.Given as goal

-- what is mended and written, with what is left, is the whole
abbrev pub invariant-loop-i : goal.invariant-loop-i
invariant-loop-i l =
    (l.place ≤ length l.s) × (l.place ≤ 61444 + 65507 * l.i) × (length l.s ≡ length l.initial.s) × (length l.out ≡ length l.initial.out)
    × (mended_from (l.n - l.i) l.s l.i l.place ≡ mended_from l.n l.initial.s 0 (place_of l.n))
    × (put l.out l.end (words (report_from (l.n - l.i) l.s l.i l.place)) ≡ put l.initial.out l.at (words (report_from l.n l.initial.s 0 (place_of l.n))))
    × (l.end + length (words (report_from (l.n - l.i) l.s l.i l.place)) ≡ l.at + length (words (report_from l.n l.initial.s 0 (place_of l.n))))
