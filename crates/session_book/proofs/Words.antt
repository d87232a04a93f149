-- A record written to the table's words and read back; the other records stay as they were. Assumes nothing.
use mathlib.Core.Path.{◌≡◌, refl, sym, ap, ap₂, ◌∙◌}
use mathlib.Core.Logic.{◌≢◌}
use mathlib.Core.Bool.{Bool, true, false, ◌&&◌}
use mathlib.Core.List.{List}
use Prim.Native.Nat.{ℕ, ◌+◌, ◌*◌, ◌/◌, ◌%◌, ◌^◌, ◌≤◌, ◌<◌}
use native.Mathlib.Nat.{mod-eq_of_lt, add-zero}
use native.Mathlib.Numerals.{one-add}
use native.Mathlib.Omega.{arith}
use lib.Dec.{ltb}
use lib.ListN.{length, get_or, length-set}
use lib.Seq.{length-sets, get_or-set_same, get_or-set_other}
use lib.Pow.{shr_lt}
use Rattle.octets.proofs.BufferLaws.{get_or-zeros}
use Rattle.records.proofs.WordLaws.{sets-before, sets-after, sets-in}
use Rattle.session_window.specs.Window.{window, join4}
use Rattle.session_table.specs.Sizes.{capacity}
use Rattle.session_record.specs.Record.{one_more}
use Rattle.session_table.specs.Table.{Record, record_words, table_words, start, retention, new_table, record_at, words_of, store, repeated, lawful}
use borrow.Author.Tests.{ltb-true, ltb-false, eq-eqb, le-leb}

-- ---- the other records

-- a record is its words
pub same-words : (t t' : List ℕ) (j : ℕ) → ((x : ℕ) → start j ≤ x → x < start j + record_words → get_or t' x 0 ≡ get_or t x 0) → record_at t' j ≡ record_at t j
same-words t t' j w = λ k.
    record {
      used = w (start j) (omega arith) (omega arith) k;
      id = w (start j + 1) (omega arith) (omega arith) k;
      h = w (start j + 2) (omega arith) (omega arith) k;
      last = w (start j + 3) (omega arith) (omega arith) k;
      marks = join4 (w (start j + 4) (omega arith) (omega arith) k) (w (start j + 5) (omega arith) (omega arith) k)
          (w (start j + 6) (omega arith) (omega arith) k) (w (start j + 7) (omega arith) (omega arith) k);
      peer = record {
        first = w (start j + 8) (omega arith) (omega arith) k;
        second = w (start j + 9) (omega arith) (omega arith) k;
        port = w (start j + 10) (omega arith) (omega arith) k % 2 ^ 16;
      };
      accepted = w (start j + 11) (omega arith) (omega arith) k;
      repeats = w (start j + 12) (omega arith) (omega arith) k;
    }

word-other : (t : List ℕ) (i j : ℕ) (r : Record) (x : ℕ) → j ≢ i → start j ≤ x → x < start j + record_words → get_or (store t i r) x 0 ≡ get_or t x 0
word-other t i j r x n l u = go (ltb x (start i)) refl
  where
    go : (b : Bool) → ltb x (start i) ≡ b → get_or (store t i r) x 0 ≡ get_or t x 0
    go true e = sets-before (words_of r) t (start i) x (ltb-true x (start i) e)
    go false e = sets-after (words_of r) t (start i) x (omega (arith, ltb-false x (start i) e))

pub record-other : (t : List ℕ) (i j : ℕ) (r : Record) → j ≢ i → record_at (store t i r) j ≡ record_at t j
record-other t i j r n = same-words t (store t i r) j (λ x l u. word-other t i j r x n l u)

-- ---- the record itself

div-mod : (m : ℕ) → m % 2 ^ 64 + 2 ^ 64 * (m / 2 ^ 64) ≡ m
div-mod m = omega arith

marks-words : (m : ℕ) → m < 2 ^ window
    → join4 (m % 2 ^ 64) (m / 2 ^ 64 % 2 ^ 64) (m / 2 ^ 64 / 2 ^ 64 % 2 ^ 64) (m / 2 ^ 64 / 2 ^ 64 / 2 ^ 64 % 2 ^ 64) ≡ m
marks-words m h =
    let top : m / 2 ^ 64 / 2 ^ 64 / 2 ^ 64 < 2 ^ 64 = shr_lt 64 64 (shr_lt 128 64 (shr_lt 192 64 h)) in
    ap (λ (x : ℕ). m % 2 ^ 64 + 2 ^ 64 * (m / 2 ^ 64 % 2 ^ 64 + 2 ^ 64 * (m / 2 ^ 64 / 2 ^ 64 % 2 ^ 64 + 2 ^ 64 * x))) (mod-eq_of_lt top)
    ∙ ap (λ (x : ℕ). m % 2 ^ 64 + 2 ^ 64 * (m / 2 ^ 64 % 2 ^ 64 + 2 ^ 64 * x)) (div-mod (m / 2 ^ 64 / 2 ^ 64))
    ∙ ap (λ (x : ℕ). m % 2 ^ 64 + 2 ^ 64 * x) (div-mod (m / 2 ^ 64))
    ∙ div-mod m

pub record_same : (t : List ℕ) (i : ℕ) (r : Record) → length t ≡ table_words → i < capacity → r.marks < 2 ^ window → r.peer.port < 2 ^ 16
    → record_at (store t i r) i ≡ r
record_same t i r e l f p = λ k.
    record {
      used = used k;
      id = w 1 (omega arith) k;
      h = w 2 (omega arith) k;
      last = w 3 (omega arith) k;
      marks = marks k;
      peer = record { first = w 8 (omega arith) k; second = w 9 (omega arith) k; port = port k };
      accepted = w 11 (omega arith) k;
      repeats = w 12 (omega arith) k;
    }
  where
    w : (n : ℕ) → n < record_words → get_or (store t i r) (start i + n) 0 ≡ get_or (words_of r) n 0
    w n h = sets-in (words_of r) t (start i) n h (omega (arith, e))

    used : get_or (store t i r) (start i) 0 ≡ r.used
    used = ap (λ (n : ℕ). get_or (store t i r) n 0) (sym (add-zero (start i))) ∙ w 0 (omega arith)

    marks : join4 (get_or (store t i r) (start i + 4) 0) (get_or (store t i r) (start i + 5) 0) (get_or (store t i r) (start i + 6) 0) (get_or (store t i r) (start i + 7) 0)
        ≡ r.marks
    marks = (λ k. join4 (w 4 (omega arith) k) (w 5 (omega arith) k) (w 6 (omega arith) k) (w 7 (omega arith) k)) ∙ marks-words r.marks f

    port : get_or (store t i r) (start i + 10) 0 % 2 ^ 16 ≡ r.peer.port
    port = ap (λ (x : ℕ). x % 2 ^ 16) (w 10 (omega arith)) ∙ mod-eq_of_lt p

pub retention-store : (t : List ℕ) (i : ℕ) (r : Record) → retention (store t i r) ≡ retention t
retention-store t i r = sets-before (words_of r) t (start i) 0 (omega arith)

pub length-store : (t : List ℕ) (i : ℕ) (r : Record) → length (store t i r) ≡ length t
length-store t i r = length-sets t (start i) (words_of r)

-- ---- the count of repeats alone

-- the record with one repeat more
abbrev pub repeat_in : Record → Record
repeat_in r =
    record {
      used = r.used;
      id = r.id;
      h = r.h;
      last = r.last;
      marks = r.marks;
      peer = r.peer;
      accepted = r.accepted;
      repeats = one_more r.repeats;
    }

pub repeated-other : (t : List ℕ) (i j : ℕ) → j ≢ i → record_at (repeated t i) j ≡ record_at t j
repeated-other t i j n = same-words t (repeated t i) j (λ x l u. get_or-set_other t (start i + 12) x _ 0 (omega arith))

pub repeated-same : (t : List ℕ) (i : ℕ) → length t ≡ table_words → i < capacity → record_at (repeated t i) i ≡ repeat_in (record_at t i)
repeated-same t i e l = λ k.
    record {
      used = w (start i) (omega arith) k;
      id = w (start i + 1) (omega arith) k;
      h = w (start i + 2) (omega arith) k;
      last = w (start i + 3) (omega arith) k;
      marks = join4 (w (start i + 4) (omega arith) k) (w (start i + 5) (omega arith) k) (w (start i + 6) (omega arith) k) (w (start i + 7) (omega arith) k);
      peer = record {
        first = w (start i + 8) (omega arith) k;
        second = w (start i + 9) (omega arith) k;
        port = w (start i + 10) (omega arith) k % 2 ^ 16;
      };
      accepted = w (start i + 11) (omega arith) k;
      repeats = get_or-set_same t (start i + 12) (one_more (record_at t i).repeats) 0 (omega (arith, e)) k;
    }
  where
    w : (x : ℕ) → x < start i + 12 → get_or (repeated t i) x 0 ≡ get_or t x 0
    w x u = get_or-set_other t (start i + 12) x _ 0 (omega arith)

pub retention-repeated : (t : List ℕ) (i : ℕ) → retention (repeated t i) ≡ retention t
retention-repeated t i = get_or-set_other t (start i + 12) 0 _ 0 (omega arith)

pub length-repeated : (t : List ℕ) (i : ℕ) → length (repeated t i) ≡ length t
length-repeated t i = length-set t (start i + 12) _

-- ---- a table just made

pub new-unused : (R i : ℕ) → (record_at (new_table R) i).used ≡ 0
new-unused R i = ap (λ (n : ℕ). get_or (new_table R) n 0) (one-add (i * record_words)) ∙ get_or-zeros (capacity * record_words) (i * record_words)

pub lawful-table : (t : List ℕ) (R : ℕ) → length t ≡ table_words → retention t ≡ R → 60 ≤ R → R ≤ 3600 → lawful t ≡ true
lawful-table t R e f lo hi =
    ap₂ (λ (x y : Bool). x && y) (eq-eqb (length t) table_words e)
    (ap₂ (λ (x y : Bool). x && y) (le-leb 60 (retention t) (omega arith)) (le-leb (retention t) 3600 (omega arith)))
