-- What planning and checking answer: one law for each way out, and what a room that was answered tells.
-- Assumes nothing.
use Rattle.std.specs.Prelude.{Err, Ok, Result}
use mathlib.Core.Path.{◌≡◌, refl, sym, ap, ◌∙◌}
use mathlib.Core.Bool.{Bool, true, false, cond, ◌&&◌, ◌||◌, and-eq-true_iff}
use mathlib.Core.List.{List}
use Prim.Native.Nat.{ℕ, ◌-◌, ◌*◌, ◌/◌, ◌≤◌, ◌<◌}
use native.Mathlib.Omega.{arith}
use lib.Dec.{eqb, leb, ltb}
use lib.ListN.{length}
use lib.Seq.{sets}
use borrow.Author.Tests.{eq-eqb, ne_eqb, le-leb, lt-leb, lt-ltb, le-ltb, leb-true, ltb-true, eqb-true, eqb-false}
use Rattle.protocol.specs.declared.Refusal.{Refusal}
use Rattle.protocol.specs.declared.Refusal.TheVariants.{Settings, Argument, Room}
use Rattle.socks5.specs.Address.{is_address}
use Rattle.datagram_parts.specs.Parts.{max_datagram, overhead_of}
use Rattle.plan_pieces.specs.Plans.{words, made}
use Rattle.plan.specs.Answers.{head_with, most_of, limit_answer, argument_answer, capacity_answer, checked_by, check_answer, room_answer, made_by, make_answer, make_out}

-- ---- the limit

module _ (most limit n : ℕ) where
  limit-decided : (a b c : Bool) → leb limit max_datagram ≡ a → eqb n 0 ≡ b → ltb 0 most ≡ c
      → cond (a && (b || c)) (Ok most) (Err Argument) ≡ limit_answer most limit n
  unfolding limit_answer
  limit-decided a b c ea eb ec = λ i. cond (sym ea i && (sym eb i || sym ec i)) (Ok most) (Err Argument)

  pub limit-over : max_datagram < limit → Err Argument ≡ limit_answer most limit n
  limit-over l = limit-decided false (eqb n 0) (ltb 0 most) (lt-leb limit max_datagram l) refl refl

  pub limit-none : limit ≤ max_datagram → n ≡ 0 → Ok most ≡ limit_answer most limit n
  limit-none l e = limit-decided true true (ltb 0 most) (le-leb limit max_datagram l) (eq-eqb n 0 e) refl

  pub limit-small : limit ≤ max_datagram → (n ≡ 0 → ⊥) → most ≡ 0 → Err Argument ≡ limit_answer most limit n
  limit-small l f e = limit-decided true false false (le-leb limit max_datagram l) (ne_eqb n 0 f) (le-ltb 0 most (omega arith))

  pub limit-some : limit ≤ max_datagram → (n ≡ 0 → ⊥) → (most ≡ 0 → ⊥) → Ok most ≡ limit_answer most limit n
  limit-some l f g =
      let p : 0 < most = omega arith in
      limit-decided true false true (le-leb limit max_datagram l) (ne_eqb n 0 f) (lt-ltb 0 most p)

-- ---- the address and the method

module _ (overhead : ℕ) (address : List ℕ) (limit n : ℕ) where
  by_address : (b : Bool) → is_address address ≡ b
      → cond b (limit_answer (limit - head_with overhead (length address)) limit n) (Err Argument)
      ≡ argument_answer overhead address limit n
  unfolding argument_answer
  by_address b e =
      ap (λ (z : Bool). cond z (limit_answer (limit - head_with overhead (length address)) limit n) (Err Argument)) (sym e)

  pub no_address : is_address address ≡ false → Err Argument ≡ argument_answer overhead address limit n
  no_address e = by_address false e

  pub an-address : is_address address ≡ true → (most : ℕ) → most ≡ limit - head_with overhead (length address) → (r : Result ℕ Refusal)
      → r ≡ limit_answer most limit n → r ≡ argument_answer overhead address limit n
  an-address e most em r er = er ∙ ap (λ (m : ℕ). limit_answer m limit n) em ∙ by_address true e

module _ (method : ℕ) (address : List ℕ) (limit n : ℕ) where
  by-method : (b : Bool) → eqb (overhead_of method) 0 ≡ b
      → cond b (Err Settings) (argument_answer (overhead_of method) address limit n) ≡ capacity_answer method address limit n
  unfolding capacity_answer
  by-method b e = ap (λ (z : Bool). cond z (Err Settings) (argument_answer (overhead_of method) address limit n)) (sym e)

  pub no-method : (k : ℕ) → k ≡ overhead_of method → k ≡ 0 → Err Settings ≡ capacity_answer method address limit n
  no-method k e z = by-method true (eq-eqb (overhead_of method) 0 (sym e ∙ z))

  pub a-method : (k : ℕ) → k ≡ overhead_of method → (k ≡ 0 → ⊥) → (r : Result ℕ Refusal) → r ≡ argument_answer k address limit n
      → r ≡ capacity_answer method address limit n
  a-method k e f r er =
      er ∙ ap (λ (x : ℕ). argument_answer x address limit n) e ∙ by-method false (ne_eqb (overhead_of method) 0 (λ z. f (e ∙ z)))

-- ---- what a room that was answered tells

pub record HasRoom (method : ℕ) (address : List ℕ) (limit n most : ℕ) : Type 0 where
  pub method_known : overhead_of method ≡ 0 → ⊥
  pub one_address : is_address address ≡ true
  pub limit-most : limit ≤ max_datagram
  pub is : most ≡ most_of method address limit
  pub some_byte : 0 < n → 0 < most

not-most : (r : Refusal) (most : ℕ) {A : Type 0} → Err r ≡ Ok most → A
not-most r most e = absurd (let z : ◌≡◌ {A = ℕ} 0 1 = cc in omega arith)

passed : (b : Bool) (x : Result ℕ Refusal) (r : Refusal) (most : ℕ) → cond b x (Err r) ≡ Ok most → (b ≡ true) × (x ≡ Ok most)
passed true x r most e = (refl, e)
passed false x r most e = not-most r most e

escaped : (b : Bool) (x : Result ℕ Refusal) (r : Refusal) (most : ℕ) → cond b (Err r) x ≡ Ok most → (b ≡ false) × (x ≡ Ok most)
escaped true x r most e = not-most r most e
escaped false x r most e = (refl, e)

same-most : (a b : ℕ) → ◌≡◌ {A = Result ℕ Refusal} (Ok a) (Ok b) → a ≡ b
same-most a b e = cc

some_of : (n most : ℕ) → (a b : Bool) → eqb n 0 ≡ a → ltb 0 most ≡ b → a || b ≡ true → 0 < n → 0 < most
some_of n most true b ea eb e p = let z = eqb-true n 0 ea in absurd (omega arith)
some_of n most false true ea eb e p = ltb-true 0 most eb
some_of n most false false ea eb e p = absurd (let z : ◌≡◌ {A = ℕ} 0 1 = cc in omega arith)

module _ (method : ℕ) (address : List ℕ) (limit n most : ℕ) where
  pub has_room : capacity_answer method address limit n ≡ Ok most → HasRoom method address limit n most
  unfolding capacity_answer argument_answer limit_answer
  has_room e =
      let m = most_of method address limit in
      let e₁ = escaped (eqb (overhead_of method) 0) _ _ most e in
      let e₂ = passed (is_address address) _ _ most e₁.1 in
      let e₃ = passed (leb limit max_datagram && (eqb n 0 || ltb 0 m)) _ _ most e₂.1 in
      let b = (and-eq-true_iff (leb limit max_datagram) (eqb n 0 || ltb 0 m)).0 e₃.0 in
      let s : m ≡ most = same-most m most e₃.1 in
      record {
        method_known = eqb-false (overhead_of method) 0 e₁.0;
        one_address = e₂.0;
        limit-most = leb-true limit max_datagram b.0;
        is = sym s;
        some_byte = λ p. let q = some_of n m (eqb n 0) (ltb 0 m) refl refl b.1 p in omega (arith, q, s);
      }

-- ---- the answers

module _ (method : ℕ) (address : List ℕ) (limit n : ℕ) where
  pub check-by : (w : List ℕ) (r q : Result ℕ Refusal) → r ≡ capacity_answer method address limit n → r ≡ q
      → checked_by q n w ≡ check_answer method address limit n w
  unfolding check_answer
  check-by w r q e f = ap (λ (x : Result ℕ Refusal). checked_by x n w) (sym f ∙ e)

  pub make-by : (room : ℕ) (r q : Result ℕ Refusal) → r ≡ capacity_answer method address limit n → r ≡ q
      → made_by q n room ≡ make_answer method address limit n room
  unfolding make_answer
  make-by room r q e f = ap (λ (x : Result ℕ Refusal). made_by x n room) (sym f ∙ e)

  module _ (r : Result ℕ Refusal) (most : ℕ) (e : r ≡ capacity_answer method address limit n) (f : r ≡ Ok most) where
    room : HasRoom method address limit n most
    room = has_room method address limit n most (sym e ∙ f)

    pub some-room : 0 < n → 0 < most
    some-room = room.some_byte

    pub make-written : (plan after : List ℕ) (k : ℕ) → after ≡ sets plan 0 (words (made most n k))
        → after ≡ make_out (Ok k) (most_of method address limit) n plan
    make-written plan after k w = w ∙ ap (λ (m : ℕ). sets plan 0 (words (made m n k))) room.is

module _ (k room : ℕ) where
  pub room-short : room / 2 < k → Err Room ≡ room_answer k room
  unfolding room_answer
  room-short l =
      let p : room < 2 * k = omega arith in
      sym (ap (λ (b : Bool). cond b (Ok k) (Err Room)) (lt-leb (2 * k) room p))

  pub room-enough : 2 * k ≤ room → Ok k ≡ room_answer k room
  unfolding room_answer
  room-enough l = sym (ap (λ (b : Bool). cond b (Ok k) (Err Room)) (le-leb (2 * k) room l))
