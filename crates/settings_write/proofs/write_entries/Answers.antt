use mathlib.Core.Path.{◌≡◌, ap, ◌∙◌}
use Prim.Native.Nat.{ℕ, ◌+◌, ◌*◌}
use native.Mathlib.Omega.{arith}
use Rattle.octets.specs.Buffers.{put}
use Rattle.octets.proofs.BufferLaws.{put-none}
use Rattle.settings_write.specs.Writing.{size_of, entry_bytes, entries}
use Rattle.settings_write.proofs.GivenLaws.{before-first, before-next, before-within}
use Rattle.settings_write.proofs.PairLaws.{number-there, length-there}
use Rattle.settings_write.proofs.EntryLaws.{put_entries}
use Rattle.settings_write.proofs.write_entries.Goals as goal

pub loop-i-init : goal.loop-i-init
unfolding entries
loop-i-init c =
    let a = c.args in
    (omega (arith, before-first a.settings.now), put-none a.out.now 4)

pub overflow_cast-number : goal.overflow_cast-number
overflow_cast-number c =
    let ws = c.args.settings.now in
    let i = c.loop-i.i in
    record { fits = omega (arith, c.requires.in_two_bytes.numbers i (omega arith), number-there ws _ c.as_chunks.ensures.front i (omega arith)) }

pub overflow_cast-offset : goal.overflow_cast-offset
overflow_cast-offset c =
    let ws = c.args.settings.now in
    let i = c.loop-i.i in
    record { fits = omega (arith, before-within ws i (size_of ws) (omega arith), c.requires.in_two_bytes.ends, c.loop-i.invariant.0) }

pub overflow_cast-len : goal.overflow_cast-len
overflow_cast-len c =
    let ws = c.args.settings.now in
    let i = c.loop-i.i in
    let there = length-there ws _ c.as_chunks.ensures.front i (omega arith) in
    record { fits = omega (arith, there, before-within ws i (size_of ws) (omega arith), c.requires.in_two_bytes.ends) }

pub overflow_add-offset-in-loop-i : goal.overflow_add-offset-in-loop-i
overflow_add-offset-in-loop-i c =
    let ws = c.args.settings.now in
    let i = c.loop-i.i in
    let there = length-there ws _ c.as_chunks.ensures.front i (omega arith) in
    record { fits = omega (arith, there, before-within ws i (size_of ws) (omega arith), c.requires.in_two_bytes.ends, c.loop-i.invariant.0) }

pub loop-i-preserved : goal.loop-i-preserved
loop-i-preserved c =
    let ws = c.args.settings.now in
    let i = c.loop-i.i in
    let number = number-there ws _ c.as_chunks.ensures.front i (omega arith) in
    let len = length-there ws _ c.as_chunks.ensures.front i (omega arith) in (
      omega (arith, len, before-next ws i, c.loop-i.invariant.0),
      put_entries ws c.args.out.now i c.loop-i.offset _ _ (omega (arith, c.requires.settings_in_bounds)) c.loop-i.invariant.0 c.loop-i.invariant.1
          (c.write_entry.ensures ∙ (λ j. put c.loop-i.out (4 + 6 * i) (entry_bytes (number j) c.loop-i.offset (len j)))),
    )

pub returns : goal.returns
returns c =
    let a = c.args in
    let e : c.loop-i.i ≡ size_of a.settings.now = omega arith in
    c.loop-i.invariant.1 ∙ ap (λ (n : ℕ). put a.out.now 4 (entries a.settings.now n 0)) e
