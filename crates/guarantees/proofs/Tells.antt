-- What a refusal tells: two runs of a call that opens what came in.
-- Assumes nothing.
use Rattle.std.specs.Prelude.{None, Option, Some}
use mathlib.Core.Path.{◌≡◌, refl, sym, ap, ap₂, ◌∙◌}
use mathlib.Core.Logic.{◌≢◌}
use mathlib.Core.Bool.{Bool, true, false, cond, ◌||◌, true≢false}
use mathlib.Core.List.{List, [], ◌∷◌}
use Prim.Native.Nat.{ℕ, ◌+◌, ◌-◌, ◌*◌, ◌^◌, min}
use lib.Dec.{eqb}
use lib.ListN.{length, set, replicate}
use borrow.Author.Tests.{eqb-true, eqb-false, ne_eqb}
use Rattle.octets.specs.Buffers.{put}
use Rattle.protocol.specs.Orders.{among}
use Rattle.protocol.specs.Method.{cipher_of}
use Rattle.datagram_parts.specs.Parts.{overhead}
use Rattle.guarantees.specs.Calls.{Call, Lent, Said, at, step, relay_stream_open_variable, relay_stream_open_response, relay_stream_open_chunk, relay_sip004_datagram_open, relay_sip004_stream_open_chunk, Opener, server, client, request, variable, response, chunk, datagram-2017, chunk-2017, session_in}
use Rattle.guarantees.specs.DatagramOrder.{record_of}
use Rattle.guarantees.specs.Guarantees.{RepeatCounted, Repeated, Refused, Ends, RefusalsTell}
use Rattle.guarantees.proofs.Base.{unlisted}
use Rattle.guarantees.proofs.Every.{every_call}
use Rattle.guarantees.proofs.Verdicts.{chain, same-chain, Chained, server-chained, client-chained, request-chained, response-chained, variable-chained, chunk-chained, chunk-chained-2017, datagram-chained-2017}

-- ---- what two calls share that differ in what came in

pub record Alike (x y : Said) : Type 0 where
  pub behind : y.behind ≡ x.behind
  pub ends : y.ends ≡ x.ends
  pub due : y.due ≡ x.due
  pub wanted : y.wanted ≡ x.wanted
  pub no-15 : among (0 ∷ x.refusals) 15 ≡ false
  pub tables : (t t₁ t₂ : List ℕ) → session_in y.role ≡ session_in x.role → Repeated x.role t t₁ → Repeated y.role t t₂ → t₂ ≡ t₁

-- a repeat of one session leaves one table
one_table : (clock i j : ℕ) (t t₁ t₂ : List ℕ) → j ≡ i → RepeatCounted clock i t t₁ → RepeatCounted clock j t t₂ → t₂ ≡ t₁
one_table clock i j t t₁ t₂ e a b =
    let p : b.place ≡ a.place = ap (λ (o : Option ℕ). place_in o) (sym b.its_own ∙ ap (record_of t clock) e ∙ a.its_own) in
    b.one_word ∙ ap (λ (k : ℕ). set t (1 + k * 13 + 12) (min (at t (1 + k * 13 + 12) + 1) (2 ^ 64 - 1))) p ∙ sym a.one_word
  where
    place_in : Option ℕ → ℕ
    place_in None = 0
    place_in (Some k) = k

pub alike : (c : List ℕ → Call) → Opener c → (s t : List ℕ) → length s ≡ length t → (m : Lent) → Alike (step (c s) m) (step (c t) m)
unfolding step
alike c (server method key clock first second port) s t e m = record {
  behind = refl;
  ends = refl;
  due = ap (λ (k : ℕ). k - overhead (cipher_of method)) (sym e);
  wanted = refl;
  no-15 = refl;
  tables = λ w w₁ w₂. one_table clock _ _ w w₁ w₂;
}
alike c (client method key clock id first second port) s t e m = record {
  behind = refl;
  ends = refl;
  due = ap (λ (k : ℕ). k - overhead (cipher_of method)) (sym e);
  wanted = refl;
  no-15 = refl;
  tables = λ w w₁ w₂. one_table clock _ _ w w₁ w₂;
}
alike c (request method key clock) s t e m =
    record { behind = refl; ends = refl; due = refl; wanted = refl; no-15 = refl; tables = λ w w₁ w₂ f a b. b ∙ sym a }
alike c variable s t e m =
    record { behind = refl; ends = refl; due = refl; wanted = refl; no-15 = refl; tables = λ w w₁ w₂ f a b. b ∙ sym a }
alike c (response method key clock request_salt) s t e m =
    record { behind = refl; ends = refl; due = refl; wanted = refl; no-15 = refl; tables = λ w w₁ w₂ f a b. b ∙ sym a }
alike c chunk s t e m =
    record { behind = refl; ends = refl; due = refl; wanted = refl; no-15 = refl; tables = λ w w₁ w₂ f a b. b ∙ sym a }
alike c (datagram-2017 method key) s t e m = record {
  behind = refl;
  ends = refl;
  due = ap (λ (k : ℕ). k - (length key + 16)) (sym e);
  wanted = refl;
  no-15 = refl;
  tables = λ w w₁ w₂ f a b. b ∙ sym a;
}
alike c chunk-2017 s t e m =
    record { behind = refl; ends = refl; due = refl; wanted = refl; no-15 = refl; tables = λ w w₁ w₂ f a b. b ∙ sym a }

-- ---- refused alike

module _ (m : Lent) (x y : Said) (kx : Ends m x) (ky : Ends m y) (k : Alike x y) (refused : x.number ≢ 0) (e : y.number ≡ x.number)
    (session : x.number ≡ 8 → session_in y.role ≡ session_in x.role) where
  rx : Refused m x
  rx = kx.refused refused

  ry : Refused m y
  ry = ky.refused (λ z. refused (sym e ∙ z))

  tables-same : y.left.table ≡ x.left.table
  tables-same = go (eqb x.number 8) refl
    where
      go : (b : Bool) → eqb x.number 8 ≡ b → y.left.table ≡ x.left.table
      go true f =
          let z = eqb-true x.number 8 f in
          k.tables m.table x.left.table y.left.table (session z) ((kx.refused refused).repeat-counted z)
          ((ky.refused (λ q. refused (sym e ∙ q))).repeat-counted (e ∙ z))
      go false f =
          let z = eqb-false x.number 8 f in
          (ky.refused (λ q. refused (sym e ∙ q))).table_kept (λ q. z (sym e ∙ q)) ∙ sym ((kx.refused refused).table_kept z)

  answers-same : y.left.answer ≡ x.left.answer
  answers-same = go (eqb x.number 10) refl
    where
      not-15 : x.number ≢ 15
      not-15 = unlisted x.refusals x.number 15 kx.listed k.no-15

      go : (b : Bool) → eqb x.number 10 ≡ b → y.left.answer ≡ x.left.answer
      go true f =
          let z = eqb-true x.number 10 f in
          (ky.refused (λ q. refused (sym e ∙ q))).wanted-told (e ∙ z) ∙ ap (set m.answer 0) k.wanted ∙ sym ((kx.refused refused).wanted-told z)
      go false f =
          let z = eqb-false x.number 10 f in
          (ky.refused (λ q. refused (sym e ∙ q))).answer-kept (λ q. z (sym e ∙ q)) (λ q. not-15 (sym e ∙ q))
          ∙ sym ((kx.refused refused).answer-kept z not-15)

  pub same_left : y.left ≡ x.left
  same_left =
      let w : y.left.stream ≡ x.left.stream =
      ry.stream-left ∙ (λ i. cond (among (k.ends i) (e i)) (set m.stream 0 0) m.stream) ∙ sym rx.stream-left in
      let o : y.left.out ≡ x.left.out =
      ry.out-left ∙ (λ i. cond (among (k.behind i) (e i)) (put m.out 0 (replicate (k.due i) 0)) m.out) ∙ sym rx.out-left in
      let p : y.left.pool ≡ x.left.pool = ry.pool-kept ∙ sym rx.pool-kept in
      let s : y.left.session ≡ x.left.session = ry.session-kept ∙ sym rx.session-kept in
      let v : y.left.words ≡ x.left.words = ry.words-kept ∙ sym rx.words-kept in
      (λ i. record { table = tables-same i; pool = p i; session = s i; stream = w i; out = o i; words = v i; answer = answers-same i })

-- ---- before the tag

module _ (behind : List ℕ) (c : List ℕ → Call) (m : Lent) (k : Chained behind c m) (s t : List ℕ) (e : length s ≡ length t)
    (verdicts : (step (c t) m).tag ≡ (step (c s) m).tag) (early : among (0 ∷ behind) (step (c s) m).number ≡ false) where
  pub same_number : (step (c t) m).number ≡ (step (c s) m).number
  same_number =
      let l = k.tests (length s) (step (c s) m).tag in
      let n : (step (c s) m).number ≡ chain l (k.last s) = k.number_is s in
      k.number_is t
      ∙ (λ i. chain (k.tests (sym e i) (verdicts i)) (k.last t))
      ∙ same-chain (0 ∷ behind) l (k.last s) (k.last t) (k.last-behind s) (sym (ap (among (0 ∷ behind)) n) ∙ early)
      ∙ sym n

-- the chain of each, with the numbers behind its tag
pub record Chains (c : List ℕ → Call) (m : Lent) : Type 0 where
  pub behind : List ℕ
  pub behind-is : (s : List ℕ) → (step (c s) m).behind ≡ behind
  pub not_eight : (s : List ℕ) → (step (c s) m).number ≡ 8 → among behind 8 ≡ true
  pub chained : Chained behind c m

chains : (c : List ℕ → Call) → Opener c → (m : Lent) → Chains c m
unfolding step
chains c (server method key clock first second port) m =
    record { behind = _; behind-is = λ s. refl; not_eight = λ s e. refl; chained = server-chained method key clock first second port m }
chains c (client method key clock id first second port) m =
    record { behind = _; behind-is = λ s. refl; not_eight = λ s e. refl; chained = client-chained method key clock id first second port m }
chains c (request method key clock) m =
    record { behind = _; behind-is = λ s. refl; not_eight = λ s e. refl; chained = request-chained method key clock m }
chains c variable m = record {
  behind = _;
  behind-is = λ s. refl;
  not_eight = λ s e. absurd (true≢false (sym (every_call (relay_stream_open_variable s) m).listed ∙ ap (among (0 ∷ 1 ∷ 4 ∷ 10 ∷ 3 ∷ 5 ∷ [])) e));
  chained = variable-chained m;
}
chains c (response method key clock request_salt) m = record {
  behind = _;
  behind-is = λ s. refl;
  not_eight = λ s e.
      absurd (true≢false (sym (every_call (relay_stream_open_response method key clock request_salt s) m).listed ∙ ap (among (0 ∷ 1 ∷ 10 ∷ 4 ∷ 6 ∷ 7 ∷ 13 ∷ 14 ∷ [])) e));
  chained = response-chained method key clock request_salt m;
}
chains c chunk m = record {
  behind = _;
  behind-is = λ s. refl;
  not_eight = λ s e. absurd (true≢false (sym (every_call (relay_stream_open_chunk s) m).listed ∙ ap (among (0 ∷ 1 ∷ 4 ∷ 11 ∷ 10 ∷ 3 ∷ 14 ∷ [])) e));
  chained = chunk-chained m;
}
chains c (datagram-2017 method key) m = record {
  behind = _;
  behind-is = λ s. refl;
  not_eight = λ s e. absurd (true≢false (sym (every_call (relay_sip004_datagram_open method key s) m).listed ∙ ap (among (0 ∷ 1 ∷ 2 ∷ 3 ∷ 4 ∷ [])) e));
  chained = datagram-chained-2017 method key m;
}
chains c chunk-2017 m = record {
  behind = _;
  behind-is = λ s. refl;
  not_eight = λ s e. absurd (true≢false (sym (every_call (relay_sip004_stream_open_chunk s) m).listed ∙ ap (among (0 ∷ 1 ∷ 4 ∷ 11 ∷ 10 ∷ 3 ∷ 5 ∷ [])) e));
  chained = chunk-chained-2017 m;
}

-- ---- the statement

pub tells : RefusalsTell
tells c o s t e m = record {
  refused-alike = λ z f g. same_left m (step (c s) m) (step (c t) m) (every_call (c s) m) (every_call (c t) m) (alike c o s t e m) z f g;
  before-tag = λ z early v.
      let k = chains c o m in
      let b : among k.behind (step (c s) m).number ≡ false = ap (λ (l : List ℕ). among l (step (c s) m).number) (sym (k.behind-is s)) ∙ early in
      let out : among (0 ∷ k.behind) (step (c s) m).number ≡ false =
      ap₂ ◌||◌ (ne_eqb (step (c s) m).number 0 z) b in
      let n = same_number k.behind c m k.chained s t e v out in (
        n,
        same_left m (step (c s) m) (step (c t) m) (every_call (c s) m) (every_call (c t) m) (alike c o s t e m) z n
            (λ q. absurd (true≢false (sym (k.not_eight s q) ∙ ap (among k.behind) (sym q) ∙ b))),
      );
}
