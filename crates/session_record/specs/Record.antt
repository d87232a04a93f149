-- One session of the table: what is fresh in its window, and the record that accepts a packet ID.
use Rattle.std.specs.Prelude.{ℕ, ◌+◌, ◌-◌, ◌*◌, ◌%◌, ◌^◌, max, min, Bool, cond, not, ◌&&◌, ◌||◌, ltb, get_or}
use Rattle.session_window.specs.Window.{window, bit, join4}
use Rattle.session_record.specs.declared.Peer.{Peer}
use Rattle.session_record.specs.declared.Session.{Session}

-- The marks are one number of 256 bits: bit i of mark word k is its bit 64 k + i, and bit d marks h - d.
pub record Record : Type 0 where
  pub used : ℕ
  pub id : ℕ
  pub h : ℕ
  pub last : ℕ
  pub marks : ℕ
  pub peer : Peer
  pub accepted : ℕ
  pub repeats : ℕ

-- a session by value, as the code has it, with its marks in four words
abbrev pub record_of : Session → Record
record_of s =
    record {
      used = s.used;
      id = s.id;
      h = s.high;
      last = s.last;
      marks = join4 (get_or s.marks 0 0) (get_or s.marks 1 0) (get_or s.marks 2 0) (get_or s.marks 3 0);
      peer = s.peer;
      accepted = s.accepted;
      repeats = s.repeats;
    }

-- ---- the window

abbrev pub fresh_in : Record → ℕ → Bool
fresh_in r p = ltb r.h p || ltb (r.h - p) window && not (bit r.marks (r.h - p))

-- p above h moves the window up by p - h, and bit 0 marks p; any other p is marked where it stands
abbrev pub marked_with : (marks h p : ℕ) → ℕ
marked_with marks h p = cond (ltb h p) ((marks * 2 ^ (p - h) + 1) % 2 ^ window) (marks + 2 ^ (h - p))

-- ---- the counts: datagrams accepted and repeats refused since the session began

-- one more, up to the largest number of a word
unfoldable pub one_more : ℕ → ℕ
one_more n = min (n + 1) (2 ^ 64 - 1)

-- ---- the session that accepts a packet ID, and the one that begins with it

-- the record that accepts p: the word in use, the ID and the repeats stay
abbrev pub accept_in : (clock : ℕ) → Peer → (p : ℕ) → Record → Record
accept_in clock a p r =
    record {
      used = r.used;
      id = r.id;
      h = max r.h p;
      last = max r.last clock;
      marks = marked_with r.marks r.h p;
      peer = a;
      accepted = one_more r.accepted;
      repeats = r.repeats;
    }

abbrev pub new_record : (clock : ℕ) → Peer → (id p : ℕ) → Record
new_record clock a id p =
    record { used = 1; id = id; h = p; last = clock; marks = 1; peer = a; accepted = 1; repeats = 0 }
