-- Plans, recordings and settings files.
-- Assumes nothing.
use Rattle.std.specs.Prelude.{Bool, Err, Ok, Result, None, Option, Some}
use mathlib.Core.Path.{◌≡◌, refl, sym, ap, ◌∙◌}
use mathlib.Core.Logic.{◌≢◌}
use mathlib.Core.Bool.{true, true≢false, ◌&&◌, ◌||◌}
use mathlib.Core.List.{List, [], ◌∷◌}
use Prim.Native.Nat.{ℕ, ◌+◌, ◌-◌, ◌*◌, ◌≤◌}
use native.Mathlib.Omega.{arith}
use lib.Dec.{eqb, leb, ltb}
use lib.ListN.{length, get_or, set, drop}
use borrow.Author.Tests.{leb-true}
use Rattle.octets.specs.Buffers.{put}
use Rattle.protocol.specs.Orders.{among}
use Rattle.protocol.specs.declared.Refusal.{Refusal}
use Rattle.protocol.specs.declared.Refusal.TheVariants.{Settings, Argument}
use Rattle.protocol.specs.Refusal.{refusal_number}
use Rattle.words.specs.Answers.{refused_answer}
use Rattle.plan.specs.Answers as plan
use Rattle.plan_pieces.specs.Plans.{passes, fewest}
use Rattle.socks5.specs.Address.{is_address}
use Rattle.datagram_parts.specs.Parts.{max_datagram, overhead_of}
use Rattle.settings_rules.specs.Contents.{first_unknown}
use Rattle.comparison_text.specs.Text as comparison
use Rattle.mending.specs.Mend.{mended_count, mended}
use Rattle.mending.proofs.MendLaws.{length_from, count_small}
use Rattle.recording.specs.Format.{is_well_formed, place_of}
use Rattle.settings_file.specs.Format.{max_file, contents_of, is_well_made}
use Rattle.settings_write.proofs.WritingLaws.{length-file}
use Rattle.octets.specs.Numbers.{to_be}
use Rattle.octets.proofs.NumberLaws.{length-to_be}
use Rattle.octets.proofs.BufferLaws.{length-put}
use lib.Seq.{drop-length}
use Rattle.mending.specs.Report as report
use Rattle.mending.specs.Report.{words}
use Rattle.settings_read.specs.Reading as reading
use Rattle.settings_write.specs.Writing as writing
use Rattle.settings_answers.specs.Told as settings
use Rattle.relay.specs.Plans as plans
use Rattle.relay.specs.Recordings as recordings
use Rattle.guarantees.specs.Calls.{Lent, nothing, says, writes, leaves, step, relay_plan_make, relay_plan_check, relay_recording_compare, relay_recording_mend, relay_settings_read, relay_settings_write}
use Rattle.guarantees.specs.Guarantees.{Ends}
use Rattle.guarantees.proofs.Base.{listed-so, listed-too, unlisted, either, never, written, first_word, length-nine, keeps, accepts}
use Rattle.settings_read.specs.declared.Settings.{Settings as Shown}

zero-not : {A : Type 0} → ◌≡◌ {A = ℕ} 0 15 → A
zero-not e = absurd (omega (arith, e))

length-mended : (s : List ℕ) → 4 ≤ length s → length (mended s) ≡ length s
unfolding mended
length-mended s l =
    let c = mended_count s in
    let p = length-put s 0 (to_be 4 c) (omega (arith, l, length-to_be 4 c)) in
    let f = (count_small s l).1 in
    let z : place_of (0 + c) ≤ length (put s 0 (to_be 4 c)) = omega (arith, p, f) in
    length_from c (put s 0 (to_be 4 c)) 0 (place_of c) z ∙ p

module _ (m : Lent) where
  -- ---- plans: 1 and 12 by the capacity, and planning 3

  by-limit : (P : Result ℕ Refusal → Type 0) (most limit n : ℕ) → P (Ok most) → P (Err Argument) → P (plan.limit_answer most limit n)
  unfolding plan.limit_answer
  by-limit P most limit n good bad = either P (leb limit max_datagram && (eqb n 0 || ltb 0 most)) (Ok most) (Err Argument) (λ e. good) (λ e. bad)

  by-argument : (P : Result ℕ Refusal → Type 0) (overhead : ℕ) (address : List ℕ) (limit n : ℕ)
      → ((k : ℕ) → P (Ok k)) → P (Err Argument) → P (plan.argument_answer overhead address limit n)
  unfolding plan.argument_answer
  by-argument P overhead address limit n good bad =
      let k = limit - plan.head_with overhead (length address) in
      either P (is_address address) (plan.limit_answer k limit n) (Err Argument) (λ e. by-limit P k limit n (good k) bad) (λ e. bad)

  capacity : (P : Result ℕ Refusal → Type 0) (method : ℕ) (address : List ℕ) (limit n : ℕ)
      → ((k : ℕ) → P (Ok k)) → ((r : Refusal) → among (1 ∷ 12 ∷ []) (refusal_number r) ≡ true → P (Err r)) → P (plan.capacity_answer method address limit n)
  unfolding plan.capacity_answer
  capacity P method address limit n good bad =
      either P (eqb (overhead_of method) 0) (Err Settings) (plan.argument_answer (overhead_of method) address limit n) (λ e. bad Settings refl)
      (λ e. by-argument P (overhead_of method) address limit n good (bad Argument refl))

  module _ (method : ℕ) (address : List ℕ) (limit n : ℕ) where
    abbrev makes : List ℕ
    makes = 1 ∷ 12 ∷ 3 ∷ []

    abbrev Makes : plans.AfterMake → Type 0
    Makes y = Ends m (says makes nothing y.number (leaves m m.table m.session m.out y.plan y.answer) 0)

    abbrev after : Result ℕ Refusal → plans.AfterMake
    after x = plans.made_told x (plan.most_of method address limit) n m.words m.answer

    pub plan-make : Ends m (step (relay_plan_make method address limit n) m)
    unfolding step plans.makes_plan plan.make_answer plan.room_answer
    plan-make =
        either Makes (eqb (length m.answer) 9) _ _
        (λ e. capacity (λ (x : Result ℕ Refusal). Makes (after (plan.made_by x n (length m.words)))) method address limit n
        (λ k. either (λ (x : Result ℕ Refusal). Makes (after x)) (leb (2 * fewest n k) (length m.words)) _ _
        (λ f. accepts makes nothing _ 0 m refl refl _ refl refl) (λ f. keeps makes nothing _ 0 m refl refl 3 refl))
        (λ r g. keeps makes nothing _ 0 m refl refl (refusal_number r) (listed-so (1 ∷ 12 ∷ []) makes (refusal_number r) refl g)))
        (λ e. keeps makes nothing _ 0 m refl refl 1 refl)

    abbrev checks : List ℕ
    checks = 1 ∷ 12 ∷ []

    abbrev Checks : plans.AfterCheck → Type 0
    Checks y = Ends m (says checks nothing y.number (leaves m m.table m.session m.out m.words y.answer) 0)

    pub plan-check : (w : List ℕ) → Ends m (step (relay_plan_check method address limit n w) m)
    unfolding step plans.checks_plan plan.check_answer
    plan-check w =
        either Checks (eqb (length m.answer) 9) _ _
        (λ e. capacity (λ (x : Result ℕ Refusal). Checks (plans.checked_told (plan.checked_by x n w) m.answer)) method address limit n
        (λ k. either (λ (x : Result Bool Refusal). Checks (plans.checked_told x m.answer)) (passes k n w) _ _
        (λ f. accepts checks nothing _ 0 m refl refl _ refl refl) (λ f. accepts checks nothing _ 0 m refl refl _ refl refl))
        (λ r g. keeps checks nothing _ 0 m refl refl (refusal_number r) (listed-too checks (refusal_number r) g)))
        (λ e. keeps checks nothing _ 0 m refl refl 1 refl)

  -- ---- recordings

  module _ (first second : List ℕ) where
    abbrev compares : List ℕ
    compares = 1 ∷ 2 ∷ 5 ∷ 3 ∷ []

    abbrev Compares : recordings.AfterCompare → Type 0
    Compares y = Ends m (writes compares y.number (leaves m m.table m.session y.out m.words y.answer))

    refused-compare : (n : ℕ) → among (0 ∷ compares) n ≡ true → Compares (record { number = n; out = m.out; answer = m.answer })
    refused-compare n e = keeps compares nothing _ (get_or m.answer 0 0) m refl refl n e

    compared : length m.answer ≡ 9 → Compares (recordings.compared 0 (comparison.text first second) m.out m.answer)
    compared l =
        either Compares (leb (length (comparison.text first second)) (length m.out)) _ _
        (λ e.
        let n = length (comparison.text first second) in
        let w = written m.out (comparison.text first second) n refl (leb-true n (length m.out) e) in
        let a = first_word m.answer n l in
        accepts compares nothing _ (get_or (set m.answer 0 n) 0 0) m refl refl _
        (ap (λ (k : ℕ). drop k (put m.out 0 (comparison.text first second))) a ∙ w.0 ∙ sym (ap (λ (k : ℕ). drop k m.out) a)) w.1)
        (λ e. refused-compare 3 refl)

    pub recording-compare : Ends m (step (relay_recording_compare first second) m)
    unfolding step recordings.compares_recordings comparison.refusal
    recording-compare =
        let P : ℕ → Type 0 = λ n. Compares (recordings.compared n (comparison.text first second) m.out m.answer) in
        either Compares (eqb (length m.answer) 9) _ _
        (λ e. either P (leb (length first) comparison.max_file) _ _
        (λ f. either P (leb (length second) comparison.max_file) _ _
        (λ g. either P (is_well_formed first) _ _
        (λ h. either P (is_well_formed second) _ _ (λ i. compared (length-nine m.answer e)) (λ i. refused-compare 5 refl)) (λ h. refused-compare 5 refl))
        (λ g. refused-compare 2 refl)) (λ f. refused-compare 2 refl))
        (λ e. refused-compare 1 refl)

  abbrev mends : List ℕ
  mends = 1 ∷ 2 ∷ 3 ∷ []

  abbrev Mends : recordings.AfterMend → Type 0
  Mends y = Ends m (says mends nothing y.number (leaves m m.table m.session y.file y.report y.answer) (length m.out))

  refused-mend : (n : ℕ) → among (0 ∷ mends) n ≡ true → Mends (record { number = n; file = m.out; report = m.words; answer = m.answer })
  refused-mend n e = keeps mends nothing _ (length m.out) m refl refl n e

  mended-file : 4 ≤ length m.out → Mends (recordings.mended_by m.out m.words m.answer 0)
  mended-file l =
      let e = length-mended m.out l in
      accepts mends nothing _ (length m.out) m refl refl _
      (sym (ap (λ (k : ℕ). drop k (mended m.out)) e) ∙ drop-length (mended m.out) ∙ sym (drop-length m.out)) e

  pub recording-mend : Ends m (step relay_recording_mend m)
  unfolding step recordings.mends_recording report.refusal
  recording-mend =
      let P : ℕ → Type 0 = λ n. Mends (recordings.mended_by m.out m.words m.answer n) in
      either Mends (eqb (length m.answer) 9) _ _
      (λ e. either P (leb 4 (length m.out)) _ _
      (λ f. either P (leb (length (words (report.report m.out))) (length m.words)) _ _ (λ g. mended-file (leb-true 4 (length m.out) f))
      (λ g. refused-mend 3 refl)) (λ f. refused-mend 2 refl))
      (λ e. refused-mend 1 refl)

  -- ---- settings

  module _ (edition : ℕ) (ws bodies : List ℕ) where
    abbrev writes_list : List ℕ
    writes_list = 1 ∷ 12 ∷ 2 ∷ 3 ∷ []

    abbrev Writes : settings.AfterWrite → Type 0
    Writes y = Ends m (writes writes_list y.number (leaves m m.table m.session y.out m.words y.answer))

    refused-write : (n : ℕ) → among (0 ∷ writes_list) n ≡ true → Writes (record { number = n; out = m.out; answer = m.answer })
    refused-write n e = keeps writes_list nothing _ (get_or m.answer 0 0) m refl refl n e

    abbrev wrote : Result ℕ Refusal → settings.AfterWrite
    wrote x = settings.written_told x (writing.file_of edition ws bodies) m.out m.answer

    pub settings-write : Ends m (step (relay_settings_write edition ws bodies) m)
    unfolding step settings.writes_settings writing.write_answer writing.length_answer
    settings-write =
        let P : Result ℕ Refusal → Type 0 = λ x. Writes (wrote x) in
        either Writes (eqb (length m.answer) 9) _ _
        (λ e. either P (writing.describes ws (length bodies)) _ _
        (λ f. either P (writing.all_writable (writing.given ws bodies)) _ _
        (λ g. either P (leb (writing.file_length ws (length bodies)) max_file) _ _
        (λ h. either P (leb (writing.file_length ws (length bodies)) (length m.out)) _ _
        (λ i. wrote-file (length-nine m.answer e) (leb-true (writing.file_length ws (length bodies)) (length m.out) i)) (λ i. refused-write 3 refl))
        (λ h. refused-write 2 refl)) (λ g. refused-write 12 refl)) (λ f. refused-write 1 refl))
        (λ e. refused-write 1 refl)
      where
        wrote-file : length m.answer ≡ 9 → writing.file_length ws (length bodies) ≤ length m.out
            → Writes (wrote (Ok (writing.file_length ws (length bodies))))
        wrote-file l r =
            let n = writing.file_length ws (length bodies) in
            let w = written m.out (writing.file_of edition ws bodies) n (length-file edition ws bodies) r in
            let a = first_word m.answer n l in
            accepts writes_list nothing _ (get_or (set m.answer 0 n) 0 0) m refl refl _
            (ap (λ (k : ℕ). drop k (put m.out 0 (writing.file_of edition ws bodies))) a ∙ w.0 ∙ sym (ap (λ (k : ℕ). drop k m.out) a)) w.1

  -- reading: 15 tells the setting
  module _ (file : List ℕ) where
    abbrev reads : List ℕ
    reads = 1 ∷ 2 ∷ 4 ∷ 5 ∷ 15 ∷ []

    abbrev Reads : settings.AfterRead → Type 0
    Reads y = Ends m (says reads nothing y.number (leaves m m.table m.session m.out m.words y.answer) 0)

    reads-told : (n : ℕ) (a : List ℕ) → among (0 ∷ reads) n ≡ true → (n ≢ 0 → n ≢ 15 → a ≡ m.answer) → (n ≡ 15 → (k : ℕ) × (a ≡ set m.answer 0 k))
        → Reads (record { number = n; answer = a })
    reads-told n a e same told = record {
      listed = e;
      refused = λ z. record {
        table_kept = λ g. refl;
        repeat-counted = λ g. refl;
        pool-kept = refl;
        session-kept = refl;
        words-kept = refl;
        stream-left = refl;
        out-left = refl;
        behind-tag = λ g. absurd (true≢false (sym g));
        answer-kept = λ g h. same z h;
        wanted-told = λ g. absurd (unlisted reads n 10 e refl g);
        setting-told = told;
      };
      past-due-kept = refl;
      length-kept = refl;
    }

    read-refused : (n : ℕ) → among (0 ∷ reads) n ≡ true → (n ≡ 15 → ⊥) → Reads (record { number = n; answer = m.answer })
    read-refused n e f = reads-told n m.answer e (λ z g. refl) (λ g. absurd (f g))

    by-known : (o : Option ℕ) → Reads (settings.read_told (reading.known_answer file o) m.answer)
    unfolding refused_answer
    by-known (Some i) = reads-told 15 _ refl (λ z g. never g) (λ g. (_, refl))
    by-known None = reads-told 0 _ refl (λ z g. never z) (λ g. absurd (zero-not g))

    pub settings-read : Ends m (step (relay_settings_read file) m)
    unfolding step settings.reads_settings reading.read_answer reading.made_answer refused_answer
    settings-read =
        let P : Result Shown Refusal → Type 0 = λ x. Reads (settings.read_told x m.answer) in
        either Reads (eqb (length m.answer) 9) _ _
        (λ e. either P (leb 36 (length file) && leb (length file) 65535) _ _
        (λ f. either P (reading.is_hashed file) _ _
        (λ g. either P (is_well_made file) _ _ (λ h. by-known (first_unknown (contents_of file)))
        (λ h. read-refused 5 refl (λ z. omega (arith, z))))
        (λ g. read-refused 4 refl (λ z. omega (arith, z)))) (λ f. read-refused 2 refl (λ z. omega (arith, z))))
        (λ e. read-refused 1 refl (λ z. omega (arith, z)))
