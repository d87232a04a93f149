-- One turn of the loops over entries, and the whole of what they leave.
-- Assumes nothing.
use mathlib.Core.Path.{◌≡◌, sym, ap, subst, ◌∙◌}
use mathlib.Core.List.{List, [], ◌++◌}
use Prim.Native.Nat.{ℕ, zero, suc, ◌+◌, ◌-◌, ◌*◌, ◌/◌, ◌≤◌, ◌<◌}
use native.Mathlib.Omega.{arith}
use lib.ListN.{length, length-append}
use Rattle.octets.specs.Buffers.{put}
use Rattle.octets.proofs.BufferLaws.{put-put, put-none}
use Rattle.recording.specs.declared.Entry.{Entry}
use Rattle.recording.specs.Format.{count, place_of, entry_at}
use Rattle.recording.specs.Written.{Written}
use Rattle.recording.proofs.WrittenLaws.{also, room, room-behind}
use Rattle.mending.specs.Mend.{mended_count, mended_entry, mended_at, put_entry, put_count, mended_from, mended}
use Rattle.mending.specs.Report.{Change, of_count, changed, entry_changes, report, report_from, words}
use Rattle.mending.proofs.MendLaws.{next, len-small}
use Rattle.mending.proofs.ReportLaws.{report-more, none_left, rest-alike, entry_length, words_append, length-words, as_many, report-found, counted-report}

-- ---- one turn

module _ (s : List ℕ) (i place : ℕ) (e f : Entry) (ee : e ≡ entry_at s (4 + 15 * i)) (ef : f ≡ mended_entry e place (length s)) where
  is-mended : f ≡ mended_at s i place
  is-mended = ef ∙ ap (λ (x : Entry). mended_entry x place (length s)) ee

  pub turn_small : (f.len ≤ 65507) × (f.len ≤ length s - place)
  turn_small = subst (λ (x : Entry). (x.len ≤ 65507) × (x.len ≤ length s - place)) (sym ef) (len-small e place (length s))

  module _ (n : ℕ) (h : i < n) where
    more : report_from (n - i) s i place ≡ entry_changes i e f ++ report_from (n - (i + 1)) s (i + 1) (place + f.len)
    more =
        report-more n s i place h
        ∙ (λ k. entry_changes i (sym ee k) (sym is-mended k) ++ report_from (n - (i + 1)) s (i + 1) (place + (sym is-mended k).len))

    -- the count of changes, one entry further
    pub due-more : (t c : ℕ) → c ≡ length (entry_changes 0 e f)
        → t + length (report_from (n - i) s i place) ≡ t + c + length (report_from (n - (i + 1)) s (i + 1) (place + f.len))
    due-more t c g =
        omega (
          arith,
          g,
          ap length more,
          length-append (entry_changes i e f) (report_from (n - (i + 1)) s (i + 1) (place + f.len)),
          entry_length 0 e f,
          entry_length i e f,
        )

    module _ (fits : place_of i + 15 ≤ length s) (s₁ : List ℕ) (es : s₁ ≡ put_entry s (4 + 15 * i) f) where
      is-next : s₁ ≡ next s i place
      is-next = es ∙ ap (put_entry s (place_of i)) is-mended

      pub mended-turn : mended_from (n - (i + 1)) s₁ (i + 1) (place + f.len) ≡ mended_from (n - i) s i place
      unfolding mended_from
      mended-turn =
          let m = n - (i + 1) in
          let x : suc m ≡ n - i = omega arith in
          (λ k. mended_from m (is-next k) (i + 1) (place + (is-mended k).len)) ∙ ap (λ (j : ℕ). mended_from j s i place) x

      rest : report_from (n - (i + 1)) s (i + 1) (place + f.len) ≡ report_from (n - (i + 1)) s₁ (i + 1) (place + f.len)
      rest =
          let m = n - (i + 1) in
          sym (rest-alike s i place fits m (place + f.len)) ∙ ap (λ (x : List ℕ). report_from m x (i + 1) (place + f.len)) (sym is-next)

      pub words-turn : words (report_from (n - i) s i place) ≡ words (entry_changes i e f) ++ words (report_from (n - (i + 1)) s₁ (i + 1) (place + f.len))
      words-turn =
          let m = n - (i + 1) in
          ap words (more ∙ ap (λ (x : List Change). entry_changes i e f ++ x) rest)
          ∙ words_append (entry_changes i e f) (report_from m s₁ (i + 1) (place + f.len))

      -- what is written with what is left is the whole
      module _ (o : List ℕ) (at : ℕ) (fit : at + length (words (report_from (n - i) s i place)) ≤ length o) where
        pub room-turn : at + length (words (entry_changes i e f)) ≤ length o
        room-turn =
            room at (length o) (words (entry_changes i e f)) (words (report_from (n - (i + 1)) s₁ (i + 1) (place + f.len)))
            (subst (λ (l : List ℕ). at + length l ≤ length o) words-turn fit)

        module _ (o₁ : List ℕ) (r : ℕ) (w : Written o at o₁ r (words (entry_changes i e f))) where
          pub put-turn : put o₁ r (words (report_from (n - (i + 1)) s₁ (i + 1) (place + f.len)))
              ≡ put o at (words (report_from (n - i) s i place))
          put-turn =
              let ws = words (report_from (n - (i + 1)) s₁ (i + 1) (place + f.len)) in
              (λ k. put (w.puts k) (w.ends k) ws) ∙ put-put o at (words (entry_changes i e f)) w.fits ws
              ∙ ap (put o at) (sym words-turn)

          pub ends-turn : r + length (words (report_from (n - (i + 1)) s₁ (i + 1) (place + f.len)))
              ≡ at + length (words (report_from (n - i) s i place))
          ends-turn =
              let ws = words (report_from (n - (i + 1)) s₁ (i + 1) (place + f.len)) in
              omega (arith, w.ends, ap length words-turn, length-append (words (entry_changes i e f)) ws)

-- ---- the first turn, and none left

pub all_left : (n : ℕ) (s : List ℕ) (i place : ℕ) → i ≡ 0
    → (mended_from (n - i) s i place ≡ mended_from n s 0 place) × (report_from (n - i) s i place ≡ report_from n s 0 place)
all_left n s i place e =
    let m : n - i ≡ n = omega arith in
    ((λ k. mended_from (m k) s (e k) place), (λ k. report_from (m k) s (e k) place))

pub none-mended : (n : ℕ) (s : List ℕ) (i place : ℕ) → n ≤ i → s ≡ mended_from (n - i) s i place
unfolding mended_from
none-mended n s i place h = let e : zero ≡ n - i = omega arith in ap (λ (m : ℕ). mended_from m s i place) e

pub written_all : (n : ℕ) (s : List ℕ) (i place : ℕ) → n ≤ i → (o o₁ ws : List ℕ) (at r : ℕ) → at + length ws ≤ length o
    → put o₁ r (words (report_from (n - i) s i place)) ≡ put o at ws
    → r + length (words (report_from (n - i) s i place)) ≡ at + length ws → Written o at o₁ r ws
unfolding words
written_all n s i place h o o₁ ws at r fits p q =
    let z : words (report_from (n - i) s i place) ≡ [] = ap words (none_left n s i place h) in
    record {
      fits = fits;
      ends = omega (arith, q, ap length z);
      puts = put-none o₁ r ∙ ap (put o₁ r) (sym z) ∙ p;
    }

-- ---- the whole

module _ (s : List ℕ) (h : 4 ≤ length s) (old n : ℕ) (eo : old ≡ count s) (en : n ≡ mended_count s) where
  abbrev rest-words : List ℕ
  rest-words = words (report_from n s 0 (place_of n))

  pub whole_words : words (report s) ≡ words (changed of_count 0 old n) ++ rest-words
  whole_words =
      ap words (report-found s h)
      ∙ words_append (changed of_count 0 (count s) (mended_count s)) (report_from (mended_count s) s 0 (place_of (mended_count s)))
      ∙ (λ k. words (changed of_count 0 (sym eo k) (sym en k)) ++ words (report_from (sym en k) s 0 (place_of (sym en k))))

  pub whole-due : (c t : ℕ) → c ≡ length (changed 0 0 old n) → t ≡ length (report_from n s 0 (place_of n))
      → 4 * (c + t) ≡ length (words (report s))
  whole-due c t x y =
      let cs = changed of_count 0 old n in
      omega (
        arith,
        x,
        y,
        as_many of_count 0 old n,
        ap length whole_words,
        length-append (words cs) rest-words,
        length-words cs,
        length-words (report_from n s 0 (place_of n)),
      )

  module _ (s₁ : List ℕ) (es : s₁ ≡ put_count s n) where
    is-counted : report_from n s₁ 0 (place_of n) ≡ report_from n s 0 (place_of n)
    is-counted =
        (λ k. report_from (en k) (es' k) 0 (place_of (en k))) ∙ counted-report s h ∙ (λ k. report_from (sym en k) s 0 (place_of (sym en k)))
      where
        es' : s₁ ≡ put_count s (mended_count s)
        es' = es ∙ ap (put_count s) en

    pub mended-whole : (s₂ : List ℕ) → s₂ ≡ mended_from n s₁ 0 (place_of n) → s₂ ≡ mended s
    unfolding mended
    mended-whole s₂ p =
        p ∙ ap (λ (x : List ℕ). mended_from n x 0 (place_of n)) es
        ∙ (λ k. mended_from (en k) (put_count s (en k)) 0 (place_of (en k)))

    module _ (o : List ℕ) (fits : length (words (report s)) ≤ length o) where
      pub room-count : 0 + length (words (changed of_count 0 old n)) ≤ length o
      room-count = omega (arith, ap length whole_words, length-append (words (changed of_count 0 old n)) rest-words)

      module _ (o₁ : List ℕ) (r₁ : ℕ) (p : Written o 0 o₁ r₁ (words (changed of_count 0 old n))) where
        pub room-entries : r₁ + length (words (report_from n s₁ 0 (place_of n))) ≤ length o₁
        room-entries =
            subst (λ (cs : List Change). r₁ + length (words cs) ≤ length o₁) (sym is-counted)
            (room-behind rest-words p (subst (λ (l : List ℕ). 0 + length l ≤ length o) whole_words (omega arith)))

        pub reported : (o₂ : List ℕ) (r₂ : ℕ) → Written o₁ r₁ o₂ r₂ (words (report_from n s₁ 0 (place_of n)))
            → (r₂ / 4 ≡ length (report s)) × Written o 0 o₂ (4 * (r₂ / 4)) (words (report s))
        reported o₂ r₂ q =
            let all : Written o 0 o₂ r₂ (words (report s)) =
            subst (Written o 0 o₂ r₂) (sym whole_words)
            (also p (subst (λ (cs : List Change). Written o₁ r₁ o₂ r₂ (words cs)) is-counted q)) in
            let four : 4 * (r₂ / 4) ≡ r₂ = omega (arith, all.ends, length-words (report s)) in
            (omega (arith, all.ends, length-words (report s)), subst (λ (x : ℕ). Written o 0 o₂ x (words (report s))) (sym four) all)
