-- A file that was written, read back: edition, count, entries, bodies and hash are what was given.
-- Assumes nothing.
use mathlib.Core.Path.{◌≡◌, sym, ap, subst, ◌∙◌}
use mathlib.Core.Bool.{false}
use mathlib.Core.List.{List, ◌++◌, append_assoc}
use Prim.Native.Nat.{ℕ, zero, suc, ◌+◌, ◌-◌, ◌≤◌, ◌<◌}
use native.Mathlib.Omega.{arith}
use lib.ListN.{length, take, drop, length-append, length-drop}
use lib.Seq.{take_at, drop_at, drop-drop, drop-append-le, take-append-le}
use Rattle.octets.specs.Numbers.{be, to_be}
use Rattle.octets.proofs.NumberLaws.{length-to_be, be-front}
use Rattle.blake3.specs.Tree.{hash}
use Rattle.settings_rules.specs.Rules.{is_unknown, lawful}
use Rattle.settings_rules.specs.Contents.{Lawful}
use Rattle.settings_file.specs.declared.Entry.{Entry}
use Rattle.settings_file.specs.Format.{edition, count, place_of, entry_at, entry, body, contents_of, hash_place, start, InRow, WellMade}
use Rattle.settings_file.proofs.RowLaws.{first-start, next_start}
use Rattle.settings_write.specs.Writing.{number_at, length_at, size_of, before, body_at, given, entry_bytes, entries, covered, file_of, Writable}
use Rattle.settings_write.proofs.GivenLaws.{before-first, before-next, before-within, described}
use Rattle.settings_write.proofs.WritableLaws.{Admitted, each-admitted, numbers-rise}
use Rattle.settings_write.proofs.EntryLaws.{entry_of, length-entries, entries_at}
use Rattle.settings_write.proofs.WritingLaws.{length-covered, length-file}

-- ---- an entry's bytes

entry_read : (p t s : List ℕ) (at number offset len : ℕ) → length p ≡ at → s ≡ p ++ (entry_bytes number offset len ++ t)
    → number < 65536 → offset < 65536 → len < 65536 → entry_at s at ≡ record { number = number; offset = offset; len = len }
unfolding entry_at
entry_read p t s at number offset len l e h₁ h₂ h₃ =
    let a = to_be 2 number in
    let b = to_be 2 offset in
    let c = to_be 2 len in
    let r : drop at s ≡ a ++ (b ++ (c ++ t)) =
    ap (drop at) e ∙ drop_at p (entry_bytes number offset len ++ t) at l ∙ append_assoc a (b ++ c) t ∙ ap (λ (x : List ℕ). a ++ x) (append_assoc b c t) in
    let r₂ : drop (at + 2) s ≡ b ++ (c ++ t) =
    sym (drop-drop 2 at s) ∙ ap (drop 2) r ∙ drop_at a (b ++ (c ++ t)) 2 (length-to_be 2 number) in
    let r₄ : drop (at + 4) s ≡ c ++ t =
    (let n : at + 4 ≡ at + 2 + 2 = omega arith in ap (λ (k : ℕ). drop k s) n)
    ∙ sym (drop-drop 2 (at + 2) s) ∙ ap (drop 2) r₂ ∙ drop_at b (c ++ t) 2 (length-to_be 2 offset) in
    let e₁ : be 2 (drop at s) ≡ number = ap (be 2) r ∙ be-front 2 number (b ++ (c ++ t)) h₁ in
    let e₂ : be 2 (drop (at + 2) s) ≡ offset = ap (be 2) r₂ ∙ be-front 2 offset (c ++ t) h₂ in
    let e₃ : be 2 (drop (at + 4) s) ≡ len = ap (be 2) r₄ ∙ be-front 2 len t h₃ in
    λ i. record { number = e₁ i; offset = e₂ i; len = e₃ i }

module _ (e : ℕ) (ws bodies : List ℕ) where
  abbrev size : ℕ
  size = size_of ws

  abbrev all : List ℕ
  all = covered e ws bodies

  abbrev file : List ℕ
  file = file_of e ws bodies

  -- ---- the hash

  hash-place : hash_place file ≡ length all
  hash-place = omega (arith, length-file e ws bodies, length-covered e ws bodies)

  pub file-covered : take (hash_place file) file ≡ covered e ws bodies
  unfolding file_of
  file-covered = take_at all (hash all) (hash_place file) (sym hash-place)

  pub file-hash : drop (hash_place file) file ≡ hash (covered e ws bodies)
  unfolding file_of
  file-hash = drop_at all (hash all) (hash_place file) (sym hash-place)

  -- ---- the parts, one behind the other

  behind-edition : file ≡ to_be 2 e ++ (to_be 2 size ++ (entries ws size 0 ++ (bodies ++ hash all)))
  unfolding file_of covered
  behind-edition =
      let a = to_be 2 e in
      let b = to_be 2 size in
      let c = entries ws size 0 in
      append_assoc a (b ++ (c ++ bodies)) (hash all)
      ∙ ap (λ (x : List ℕ). a ++ x) (append_assoc b (c ++ bodies) (hash all) ∙ ap (λ (x : List ℕ). b ++ x) (append_assoc c bodies (hash all)))

  -- edition and count
  abbrev head : List ℕ
  head = to_be 2 e ++ to_be 2 size

  length-head : length head ≡ 4
  length-head = length-append (to_be 2 e) (to_be 2 size) ∙ omega (arith, length-to_be 2 e, length-to_be 2 size)

  behind-head : file ≡ head ++ (entries ws size 0 ++ (bodies ++ hash all))
  behind-head = behind-edition ∙ sym (append_assoc (to_be 2 e) (to_be 2 size) (entries ws size 0 ++ (bodies ++ hash all)))

  pub file-edition : e < 65536 → edition file ≡ e
  file-edition h = ap (be 2) behind-edition ∙ be-front 2 e (to_be 2 size ++ (entries ws size 0 ++ (bodies ++ hash all))) h

  -- all bodies and the hash
  behind-contents : drop (place_of size) file ≡ bodies ++ hash all
  behind-contents =
      let c = entries ws size 0 in
      let l : length (head ++ c) ≡ place_of size = length-append head c ∙ omega (arith, length-head, length-entries ws size 0) in
      ap (drop (place_of size)) (behind-head ∙ sym (append_assoc head c (bodies ++ hash all))) ∙ drop_at (head ++ c) (bodies ++ hash all) (place_of size) l

  module _ (w : Writable ws bodies) where
    ends : before ws size ≡ length bodies
    ends = described ws (length bodies) w.described

    pub file-count : count file ≡ size_of ws
    file-count =
        let r = entries ws size 0 ++ (bodies ++ hash all) in
        ap (λ (s : List ℕ). be 2 (drop 2 s)) behind-edition
        ∙ ap (be 2) (drop_at (to_be 2 e) (to_be 2 size ++ r) 2 (length-to_be 2 e))
        ∙ be-front 2 size r (omega (arith, w.short))

    -- ---- settings

    pub setting-admitted : (i : ℕ) → i < size_of ws → Admitted (number_at ws i) (body_at ws bodies i)
    setting-admitted i l = each-admitted (given ws bodies) w.lawful i l

    pub file-entry : (i : ℕ) → i < size_of ws
        → entry file i ≡ record { number = number_at ws i; offset = place_of (size_of ws) + before ws i; len = length_at ws i }
    file-entry i l =
        let c = entries ws i 0 in
        let r = entries ws (size - (i + 1)) (i + 1) in
        let t = bodies ++ hash all in
        let p : file ≡ head ++ c ++ (entry_of ws i ++ (r ++ t)) =
        behind-head
        ∙ ap (λ (x : List ℕ). head ++ x)
        (ap (λ (x : List ℕ). x ++ t) (entries_at ws size i l) ∙ append_assoc c (entry_of ws i ++ r) t
        ∙ ap (λ (x : List ℕ). c ++ x) (append_assoc (entry_of ws i) r t))
        ∙ sym (append_assoc head c (entry_of ws i ++ (r ++ t))) in
        let n : length (head ++ c) ≡ place_of i = length-append head c ∙ omega (arith, length-head, length-entries ws i 0) in
        let m = before-within ws i size l in
        entry_read (head ++ c) (r ++ t) file (place_of i) (number_at ws i) (place_of size + before ws i) (length_at ws i) n p
        (omega (arith, (setting-admitted i l).most)) (omega (arith, m, ends, w.short)) (omega (arith, m, ends, w.short))

    pub file-body : (i : ℕ) → i < size_of ws → body file i ≡ body_at ws bodies i
    unfolding body body_at
    file-body i l =
        let m = before-within ws i size l in
        let x = before ws i in
        let h : x ≤ length bodies = omega (arith, m, ends) in
        let k : length_at ws i ≤ length (drop x bodies) = omega (arith, m, ends, length-drop x bodies) in
        ap (λ (y : Entry). take y.len (drop y.offset file)) (file-entry i l)
        ∙ ap (take (length_at ws i))
        (sym (drop-drop x (place_of size) file) ∙ ap (drop x) behind-contents ∙ drop-append-le x bodies (hash all) h)
        ∙ take-append-le (length_at ws i) (drop x bodies) (hash all) k

    pub file-start : (i : ℕ) → i ≤ size_of ws → start file i ≡ place_of (size_of ws) + before ws i
    file-start zero l = first-start file ∙ ap place_of file-count ∙ omega (arith, before-first ws)
    file-start (suc i) l =
        let n : suc i ≡ i + 1 = omega arith in
        let s : start file (i + 1) ≡ start file i + length_at ws i =
        next_start file i ∙ ap (λ (y : Entry). start file i + y.len) (file-entry i (omega arith)) in
        ap (start file) n ∙ omega (arith, s, file-start i (omega arith), before-next ws i, ap (before ws) n)

    -- ---- the file is well made

    pub file-in-row : InRow file
    file-in-row =
        let place = hash-place ∙ length-covered e ws bodies in
        record {
          contents = omega (arith, file-count, place);
          back-to-back = λ i l. let k : i < size_of ws = subst (λ (n : ℕ). i < n) file-count l in
              ap (λ (y : Entry). y.offset) (file-entry i k) ∙ sym (file-start i (omega (arith, k)));
          ends = ap (start file) file-count ∙ file-start size (omega arith) ∙ omega (arith, place, ends);
        }

    number_read : (i : ℕ) → i < size_of ws → (entry file i).number ≡ number_at ws i
    number_read i l = ap (λ (y : Entry). y.number) (file-entry i l)

    pub file-lawful : Lawful (contents_of file)
    file-lawful =
        record {
          rising = λ i l.
              let k : i + 1 < size_of ws = subst (λ (n : ℕ). i + 1 < n) file-count l in
              let r : number_at ws i < number_at ws (i + 1) = numbers-rise (given ws bodies) w.lawful i k in
              subst (λ (n : ℕ). n < (entry file (i + 1)).number) (sym (number_read i (omega (arith, k))))
              (subst (λ (n : ℕ). number_at ws i < n) (sym (number_read (i + 1) k)) r);
          bodies = λ i l.
              let k : i < size_of ws = subst (λ (n : ℕ). i < n) file-count l in
              (λ j. lawful (number_read i k j) (file-body i k j)) ∙ (setting-admitted i k).lawful;
        }

    pub file-well-made : WellMade file
    file-well-made = record { in_row = file-in-row; lawful = file-lawful }

    pub file-known : (i : ℕ) → i < size_of ws → is_unknown (number_at ws i) ≡ false
    file-known i l = (setting-admitted i l).not-unknown
