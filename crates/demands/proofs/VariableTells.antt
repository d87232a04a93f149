-- When exactly a request's variable header is opened, and what each way out of its call leaves.
-- Assumes nothing.
use Rattle.std.specs.Prelude.{Err, None, Ok, Option, Result, Some}
use mathlib.Core.Path.{◌≡◌, refl, sym, ap, ◌∙◌, subst}
use mathlib.Core.Bool.{Bool, true, false, cond, not, ◌&&◌, ◌||◌, and-eq-true_iff, or-true}
use mathlib.Core.List.{List}
use Prim.Native.Nat.{ℕ, ◌+◌, ◌≤◌, ◌<◌}
use native.Mathlib.Omega.{arith}
use lib.Dec.{eqb, leb, ltb}
use lib.ListN.{length, replicate, length-replicate}
use lib.Seq.{length-take-le}
use borrow.Author.Tests.{eq-eqb, ne_eqb, le-leb, lt-ltb, leb-true, leb-false, ltb-true, eqb-true, eqb-false}
use Rattle.octets.specs.Buffers.{put}
use Rattle.octets.proofs.BufferLaws.{put-again}
use Rattle.protocol.specs.declared.Refusal.{Refusal}
use Rattle.protocol.specs.declared.Refusal.TheVariants.{Settings, Room, NotAuthentic, Malformed, More}
use Rattle.protocol.specs.Refusal.{refusal_number, added}
use Rattle.protocol.specs.Method.{key_length}
use Rattle.socks5.specs.declared.Address.{Address}
use Rattle.socks5.specs.Address.{parse_at}
use Rattle.stream_pieces.specs.Pieces.{authentic_at, open_at}
use Rattle.stream_pieces.proofs.LengthLaws.{length-open_at}
use Rattle.stream_heads.specs.Heads.{max_padding}
use Rattle.stream_open.specs.declared.Turn.{Turn}
use Rattle.stream_open.specs.declared.Turn.TheVariants.{Variable, Length, Payload, Ended}
use Rattle.stream_open.specs.declared.Receiver.{Receiver}
use Rattle.stream_open.specs.Chunks.{stream_key}
use Rattle.stream_open_variable.specs.declared.VariableHeader.{VariableHeader}
use Rattle.stream_open_variable.specs.Variable.{padding_at, padding_fits, header_with, read_variable, header_answer, settled, header_out, turn_variable, turn_out, variable_answer, variable_out, variable_next}
use Rattle.demands.specs.StreamsKeep.{of_variable}
use Rattle.demands.specs.StreamsOpen.{ValidVariable, variable_at, VariableOpens, VariableExactlyWhen}

abbrev is_header : Result VariableHeader Refusal → ℕ
is_header (Ok h) = 1
is_header (Err r) = 0

abbrev header_in : Result VariableHeader Refusal → VariableHeader → VariableHeader
header_in (Ok h) other = h
header_in (Err r) other = other

abbrev refusal_in : Result VariableHeader Refusal → Refusal → Refusal
refusal_in (Ok h) other = other
refusal_in (Err r) other = r

pub not-header : (a : Result VariableHeader Refusal) (r : Refusal) (h : VariableHeader) → a ≡ Err r → a ≡ Ok h → ⊥
not-header a r h e g = let z : ◌≡◌ {A = ℕ} 0 1 = ap is_header (sym e ∙ g) in omega arith

pub same-refusal : (a : Result VariableHeader Refusal) (r t : Refusal) → a ≡ Err r → a ≡ Err t → r ≡ t
same-refusal a r t e f = ap (λ (x : Result VariableHeader Refusal). refusal_in x r) (sym e ∙ f)

-- ---- what the plaintext says

record Passed (b : Bool) (x : Result VariableHeader Refusal) (h : VariableHeader) : Type 0 where
  test : b ≡ true
  then : x ≡ Ok h

passed : (b : Bool) (x : Result VariableHeader Refusal) (r : Refusal) (h : VariableHeader) → cond b x (Err r) ≡ Ok h → Passed b x h
passed true x r h e = record { test = refl; then = e }
passed false x r h e = absurd (not-header (Err r) r h refl e)

module _ (size : ℕ) (plain : List ℕ) where
  abbrev said : Address → VariableHeader
  said a =
      record {
        target = a.target;
        port = a.port;
        padding = padding_at a.end plain;
        payload = a.end + 2 + padding_at a.end plain;
        length = size;
        used = size + 16;
      }

  with-tells : (p : Option Address) (h : VariableHeader) → parse_at plain 0 ≡ p → header_with size plain p ≡ Ok h → ValidVariable size plain h
  unfolding padding_fits
  with-tells (Some a) h found e =
      let e₁ =
      passed
      (leb (a.end + 2) (length plain) && (leb (padding_at a.end plain) max_padding && (leb (a.end + 2 + padding_at a.end plain) (length plain) && ltb (a.end + 2) (length plain)))) _ _ h e in
      let b₁ = (and-eq-true_iff (leb (a.end + 2) (length plain)) _).0 e₁.test in
      let b₂ = (and-eq-true_iff (leb (padding_at a.end plain) max_padding) _).0 b₁.1 in
      let b₃ = (and-eq-true_iff (leb (a.end + 2 + padding_at a.end plain) (length plain)) _).0 b₂.1 in
      record {
        address = a;
        address-found = found;
        length-there = leb-true (a.end + 2) (length plain) b₁.0;
        padding-short = leb-true (padding_at a.end plain) max_padding b₂.0;
        padding-there = leb-true (a.end + 2 + padding_at a.end plain) (length plain) b₃.0;
        not-bare = ltb-true (a.end + 2) (length plain) b₃.1;
        says = sym (ap (λ (x : Result VariableHeader Refusal). header_in x h) e₁.then);
      }
  with-tells None h found e = absurd (not-header (Err Malformed) Malformed h refl e)

  plain-tells : (h : VariableHeader) → read_variable size plain ≡ Ok h → ValidVariable size plain h
  unfolding read_variable
  plain-tells h e = with-tells (parse_at plain 0) h refl e

  plain-given : (h : VariableHeader) → ValidVariable size plain h → read_variable size plain ≡ Ok h
  unfolding read_variable padding_fits
  plain-given h d =
      let a = d.address in
      let e₁ = le-leb (a.end + 2) (length plain) d.length-there in
      let e₂ = le-leb (padding_at a.end plain) max_padding d.padding-short in
      let e₃ = le-leb (a.end + 2 + padding_at a.end plain) (length plain) d.padding-there in
      let e₄ = lt-ltb (a.end + 2) (length plain) d.not-bare in
      ap (header_with size plain) d.address-found
      ∙ (λ i. cond (e₁ i && (e₂ i && (e₃ i && e₄ i))) (Ok (said a)) (Err Malformed))
      ∙ ap Ok (sym d.says)

  with-malformed : (p : Option Address) (r : Refusal) → header_with size plain p ≡ Err r → r ≡ Malformed
  with-malformed (Some a) r e = go (padding_fits a.end plain) e
    where
      go : (b : Bool) → cond b (Ok (said a)) (Err Malformed) ≡ Err r → r ≡ Malformed
      go true g = absurd (not-header (Ok (said a)) r (said a) g refl)
      go false g = sym (ap (λ (x : Result VariableHeader Refusal). refusal_in x r) g)
  with-malformed None r e = sym (ap (λ (x : Result VariableHeader Refusal). refusal_in x r) e)

  plain-malformed : (r : Refusal) → read_variable size plain ≡ Err r → r ≡ Malformed
  unfolding read_variable
  plain-malformed r e = with-malformed (parse_at plain 0) r e

-- ---- the call

-- other than 5 and 10
abbrev neither : Refusal → Bool
neither r = not (eqb (refusal_number r) 5 || eqb (refusal_number r) 10)

not-both : false ≡ true → ⊥
not-both e = let z : ◌≡◌ {A = ℕ} 0 1 = ap (λ (b : Bool). cond b 1 0) e in omega arith

pub not_five : (r : Refusal) → neither r ≡ true → refusal_number r ≡ 5 → ⊥
not_five r e f = not-both (ap (λ (b : Bool). not (b || eqb (refusal_number r) 10)) (sym (eq-eqb (refusal_number r) 5 f)) ∙ e)

not-ten : (r : Refusal) → neither r ≡ true → refusal_number r ≡ 10 → ⊥
not-ten r e f =
    not-both
    (sym (ap not (or-true (eqb (refusal_number r) 5)))
    ∙ ap (λ (b : Bool). not (eqb (refusal_number r) 5 || b)) (sym (eq-eqb (refusal_number r) 10 f)) ∙ e)

module _ (st : Receiver) (s out : List ℕ) where
  abbrev plain : ℕ → List ℕ
  plain n = open_at (stream_key st) 1 (variable_at n s)

  -- by the test for the method and the turn
  module _ (a : Bool) (u : Turn) (ea : eqb (key_length st.method) 0 ≡ a) (eu : st.turn ≡ u) where
    pub answer-by : variable_answer st s (length out) ≡ cond a (Err Settings) (turn_variable u st s (length out))
    unfolding variable_answer
    answer-by = λ i. cond (ea i) (Err Settings) (turn_variable (eu i) st s (length out))

    pub out-by : variable_out st s out ≡ cond a out (turn_out u st s out)
    unfolding variable_out
    out-by = λ i. cond (ea i) out (turn_out (eu i) st s out)

  -- at its own turn by the tests for the counter, the bytes, the room and the tag
  module _ (n : ℕ) (e a b c : Bool) (ek : eqb (key_length st.method) 0 ≡ false) (eu : st.turn ≡ Variable n) (ee : eqb st.counter 1 ≡ e)
      (ea : leb (n + 16) (length s) ≡ a) (eb : leb n (length out) ≡ b) (ec : authentic_at (stream_key st) 1 (variable_at n s) ≡ c) where
    pub header-by : variable_answer st s (length out)
        ≡ cond e
        (cond a (cond b (cond c (read_variable n (plain n)) (Err NotAuthentic)) (Err Room)) (Err (More (n + 16))))
        (Err Settings)
    unfolding header_answer
    header-by =
        answer-by false (Variable n) ek eu
        ∙ (λ i. cond (ee i)
        (cond (ea i) (cond (eb i) (cond (ec i) (read_variable n (plain n)) (Err NotAuthentic)) (Err Room)) (Err (More (n + 16))))
        (Err Settings))

    pub text-by : variable_out st s out
        ≡ cond e (cond (a && (b && c)) (settled (read_variable n (plain n)) n (put out 0 (plain n))) out) out
    unfolding header_out
    text-by =
        out-by false (Variable n) ek eu
        ∙ (λ i. cond (ee i) (cond (ea i && (eb i && ec i)) (settled (read_variable n (plain n)) n (put out 0 (plain n))) out) out)

  -- as long as is due
  pub length-plain : (n : ℕ) → n + 16 ≤ length s → length (plain n) ≡ n
  length-plain n h = omega (arith, length-open_at (stream_key st) 1 (variable_at n s), length-take-le (n + 16) s h)

  pub record VariableGiven (h : VariableHeader) (d : VariableOpens st s (length out) h) : Type 0 where
    pub answers : variable_answer st s (length out) ≡ Ok h
    pub writes : variable_out st s out ≡ put out 0 (open_at (stream_key st) 1 (variable_at d.size s))

  pub variable-given : (h : VariableHeader) (d : VariableOpens st s (length out) h) → VariableGiven h d
  variable-given h d =
      let m = d.size in
      let ek = ne_eqb (key_length st.method) 0 d.known in
      let ee = eq-eqb st.counter 1 d.counts in
      let ea = le-leb (m + 16) (length s) d.whole in
      let eb = le-leb m (length out) d.has_room in
      let ev = plain-given m (plain m) h d.valid in
      record {
        answers = header-by m true true true true ek d.at_turn ee ea eb d.authentic ∙ ev;
        writes = text-by m true true true true ek d.at_turn ee ea eb d.authentic
            ∙ ap (λ (x : Result VariableHeader Refusal). settled x m (put out 0 (plain m))) ev;
      }

  pub data Way : Type 0 where
    refused : (r : Refusal) → of_variable r ≡ true → neither r ≡ true → variable_answer st s (length out) ≡ Err r → variable_out st s out ≡ out → Way
    missing : (n : ℕ) → st.turn ≡ Variable n → length s < n + 16 → variable_answer st s (length out) ≡ Err (More (n + 16))
        → variable_out st s out ≡ out → Way
    zeroed : (n : ℕ) → st.turn ≡ Variable n → n ≤ length out → variable_answer st s (length out) ≡ Err Malformed
        → variable_out st s out ≡ put out 0 (replicate n 0) → Way
    opened : (h : VariableHeader) (d : VariableOpens st s (length out) h) → VariableGiven h d → Way

  module _ (n : ℕ) (ek : eqb (key_length st.method) 0 ≡ false) (eu : st.turn ≡ Variable n) where
    by-header : eqb st.counter 1 ≡ true → leb (n + 16) (length s) ≡ true → leb n (length out) ≡ true
        → authentic_at (stream_key st) 1 (variable_at n s) ≡ true → (x : Result VariableHeader Refusal) → read_variable n (plain n) ≡ x → Way
    by-header ee ea eb ec (Ok h) ex =
        let d : VariableOpens st s (length out) h =
        record {
          known = eqb-false (key_length st.method) 0 ek;
          size = n;
          at_turn = eu;
          counts = eqb-true st.counter 1 ee;
          whole = leb-true (n + 16) (length s) ea;
          has_room = leb-true n (length out) eb;
          authentic = ec;
          valid = plain-tells n (plain n) h ex;
        } in
        opened h d (variable-given h d)
    by-header ee ea eb ec (Err r) ex =
        let er = plain-malformed n (plain n) r ex in
        let room = leb-true n (length out) eb in
        let lp = length-plain n (leb-true (n + 16) (length s) ea) in
        let lz : length (replicate {A = ℕ} n 0) ≡ n = length-replicate n 0 in
        zeroed n eu room (header-by n true true true true ek eu ee ea eb ec ∙ ex ∙ ap Err er)
        (text-by n true true true true ek eu ee ea eb ec ∙ ap (λ (x : Result VariableHeader Refusal). settled x n (put out 0 (plain n))) ex
        ∙ put-again out (plain n) (replicate n 0) (omega (arith, lp, room)) (lz ∙ sym lp))

    by_tests : (e a b c : Bool) → eqb st.counter 1 ≡ e → leb (n + 16) (length s) ≡ a → leb n (length out) ≡ b
        → authentic_at (stream_key st) 1 (variable_at n s) ≡ c → Way
    by_tests false a b c ee ea eb ec =
        refused Settings refl refl (header-by n false a b c ek eu ee ea eb ec) (text-by n false a b c ek eu ee ea eb ec)
    by_tests true false b c ee ea eb ec =
        missing n eu (leb-false (n + 16) (length s) ea) (header-by n true false b c ek eu ee ea eb ec) (text-by n true false b c ek eu ee ea eb ec)
    by_tests true true false c ee ea eb ec =
        refused Room refl refl (header-by n true true false c ek eu ee ea eb ec) (text-by n true true false c ek eu ee ea eb ec)
    by_tests true true true false ee ea eb ec =
        refused NotAuthentic refl refl (header-by n true true true false ek eu ee ea eb ec) (text-by n true true true false ek eu ee ea eb ec)
    by_tests true true true true ee ea eb ec = by-header ee ea eb ec (read_variable n (plain n)) refl

  by_turn : (a : Bool) (u : Turn) → eqb (key_length st.method) 0 ≡ a → st.turn ≡ u → Way
  by_turn true u ea eu = refused Settings refl refl (answer-by true u ea eu) (out-by true u ea eu)
  by_turn false (Variable n) ea eu =
      by_tests n ea eu (eqb st.counter 1) (leb (n + 16) (length s)) (leb n (length out)) (authentic_at (stream_key st) 1 (variable_at n s)) refl
      refl refl refl
  by_turn false Length ea eu = refused Settings refl refl (answer-by false Length ea eu) (out-by false Length ea eu)
  by_turn false (Payload m) ea eu = refused Settings refl refl (answer-by false (Payload m) ea eu) (out-by false (Payload m) ea eu)
  by_turn false Ended ea eu = refused NotAuthentic refl refl (answer-by false Ended ea eu) (out-by false Ended ea eu)

  pub way : Way
  way = by_turn (eqb (key_length st.method) 0) st.turn refl refl

  pub variable-tells : (h : VariableHeader) → variable_answer st s (length out) ≡ Ok h → VariableOpens st s (length out) h
  variable-tells h e = go way
    where
      go : Way → VariableOpens st s (length out) h
      go (refused r o p er eo) = absurd (not-header _ r h er e)
      go (missing n eu short er eo) = absurd (not-header _ (More (n + 16)) h er e)
      go (zeroed n eu room er eo) = absurd (not-header _ Malformed h er e)
      go (opened g d q) =
          subst (VariableOpens st s (length out)) (ap (λ (x : Result VariableHeader Refusal). header_in x g) (sym q.answers ∙ e)) d

-- what an answer of 10 tells
pub record Missing (st : Receiver) (s : List ℕ) (wanted : ℕ) : Type 0 where
  pub size : ℕ
  pub at_turn : st.turn ≡ Variable size
  pub asks : wanted ≡ size + 16
  pub short : length s < size + 16

pub more-tells : (st : Receiver) (s out : List ℕ) (wanted : ℕ) → variable_answer st s (length out) ≡ Err (More wanted) → Missing st s wanted
more-tells st s out wanted e = go (way st s out)
  where
    same : (r : Refusal) → variable_answer st s (length out) ≡ Err r → r ≡ More wanted
    same r er = same-refusal _ r (More wanted) er e

    go : Way st s out → Missing st s wanted
    go (refused r o p er eo) = absurd (not-ten r p (ap refusal_number (same r er)))
    go (missing n eu short er eo) =
        record { size = n; at_turn = eu; asks = sym (ap added (same (More (n + 16)) er)); short = short }
    go (zeroed n eu room er eo) = absurd (let z : ◌≡◌ {A = ℕ} 5 10 = ap refusal_number (same Malformed er) in omega arith)
    go (opened h d q) = absurd (not-header _ (More wanted) h e q.answers)

pub variable-exactly-when : VariableExactlyWhen
variable-exactly-when st s out h =
    record {
      only-when = variable-tells st s out h;
      always-when = λ d. (variable-given st s out h d).answers;
      opened-text = λ d. (variable-given st s out h d).writes;
      length-next = λ e. ap (variable_next st) e;
    }
