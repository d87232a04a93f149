-- The orders of refusals of reading and writing a file of settings.
-- Assumes nothing.
use Rattle.std.specs.Prelude.{None, Option, Some}
use mathlib.Core.Path.{◌≡◌, refl, ap₂, ◌∙◌}
use mathlib.Core.Bool.{Bool, true, false, not, ◌&&◌, ◌||◌}
use mathlib.Core.List.{List, [], ◌∷◌}
use Prim.Native.Nat.{ℕ, ◌-◌, ◌/◌, ◌%◌}
use lib.Dec.{eqb, leb, ltb}
use lib.ListN.{length, take, drop}
use borrow.Author.Tests.{leb-true, leb-false, lt-ltb, le-ltb}
use Rattle.octets.specs.Buffers.{same}
use Rattle.blake3.specs.Tree.{hash}
use Rattle.protocol.specs.Orders.{unknown_setting, first}
use Rattle.protocol.proofs.OrderLaws.{next, done}
use Rattle.settings_rules.specs.Contents.{first_unknown}
use Rattle.settings_file.specs.Format.{min_file, max_file, contents_of, is_well_made}
use Rattle.settings_read.specs.Reading.{settings_in, is_hashed, known_answer, made_answer, read_answer}
use Rattle.settings_write.specs.Writing.{before, given, describes, all_writable, length_answer, write_answer}
use Rattle.settings_demands.specs.FileOrders.{said_read, said_written, is_there, number_there, read_order, file_bytes, write_order, FileOrders}

-- ---- conditions

-- over is not at most, and under not at least
over : (a b : ℕ) → ltb a b ≡ not (leb b a)
over a b = go (leb b a) refl
  where
    go : (c : Bool) → leb b a ≡ c → ltb a b ≡ not c
    go true e = le-ltb a b (leb-true b a e)
    go false e = lt-ltb a b (leb-false b a e)

outside : (a b : Bool) → (not a || not b) ≡ not (a && b)
outside true b = refl
outside false b = refl

-- ---- reading

module _ (s : List ℕ) where
  known-rule : (o : Option ℕ)
      → said_read (known_answer s o) ≡ first (unknown_setting (number_there s o) (is_there o) ∷ []) (settings_in s)
  unfolding first
  known-rule (Some i) = refl
  known-rule None = refl

  length-rule : (ltb (length s) 36 || ltb 65535 (length s)) ≡ not (leb min_file (length s) && leb (length s) max_file)
  length-rule = ap₂ ◌||◌ (over (length s) 36) (over 65535 (length s)) ∙ outside (leb 36 (length s)) (leb (length s) 65535)

  reading : said_read (read_answer s) ≡ first (read_order s) (settings_in s)
  unfolding read_answer made_answer is_hashed
  reading =
      next said_read (leb min_file (length s) && leb (length s) max_file) _ _ (settings_in s) length-rule refl
      (λ l. next said_read (same (hash (take (length s - 32) s)) (drop (length s - 32) s)) _ _ (settings_in s) refl refl
      (λ h. next said_read (is_well_made s) _ _ (settings_in s) refl refl (λ m. known-rule (first_unknown (contents_of s)))))

-- ---- writing

module _ (ws bodies : List ℕ) (room : ℕ) where
  writing : said_written (write_answer ws bodies room) ≡ first (write_order ws bodies room) (file_bytes ws bodies)
  unfolding write_answer describes length_answer
  writing =
      next said_written (describes ws (length bodies)) _ _ (file_bytes ws bodies)
      (outside (eqb (length ws % 2) 0) (eqb (before ws (length ws / 2)) (length bodies))) refl
      (λ d. next said_written (all_writable (given ws bodies)) _ _ (file_bytes ws bodies) refl refl
      (λ w. next said_written (leb (file_bytes ws bodies) 65535) _ _ (file_bytes ws bodies) (over 65535 (file_bytes ws bodies)) refl
      (λ l. next said_written (leb (file_bytes ws bodies) room) _ _ (file_bytes ws bodies) (over room (file_bytes ws bodies)) refl
      (λ r. done (file_bytes ws bodies)))))

pub file-orders : FileOrders
file-orders = record { reading = reading; writing = writing }
