-- What the arguments are, by the room that is answered: three cases, and every answer goes through them.
-- Assumes nothing.
use Rattle.std.specs.Prelude.{Err, Ok, Result}
use mathlib.Core.Path.{◌≡◌, refl, sym, ap, ◌∙◌}
use mathlib.Core.Bool.{Bool, true, false, cond}
use mathlib.Core.List.{List}
use Prim.Native.Nat.{ℕ, ◌+◌, ◌-◌, ◌<◌}
use native.Mathlib.Omega.{arith}
use lib.Dec.{eqb, leb, ltb}
use lib.ListN.{length}
use borrow.Author.Tests.{leb-true, leb-false, ltb-true, ltb-false, eqb-true, eqb-false}
use Rattle.protocol.specs.declared.Refusal.TheVariants.{Settings, Argument}
use Rattle.socks5.specs.Address.{is_address}
use Rattle.datagram_parts.specs.Parts.{overhead_of}
use Rattle.plan.specs.Answers.{head_of, most_of, limit_answer, capacity_answer}
use Rattle.plan.proofs.AnswerLaws.{limit-over, limit-none, limit-small, limit-some, no_address, an-address, no-method, a-method}
use Rattle.plan_demands.specs.Plans.{KnownMethod, besides, Arguments, Lawful}
use Rattle.plan_demands.proofs.MethodLaws.{overhead-plain, overhead-extended, overhead-some, overhead-tells}
use Rattle.protocol.specs.declared.Refusal.{Refusal}

false-true : {A : Type 0} → false ≡ true → A
false-true e = absurd (let z : ◌≡◌ {A = ℕ} 0 1 = cc in omega arith)

module _ (method : ℕ) (address : List ℕ) (k : KnownMethod method) where
  -- the bytes besides piece and padding are the written ones
  pub besides-head : head_of method address ≡ besides method address
  besides-head = go (leb method 2) refl
    where
      by : (b : Bool) → leb method 2 ≡ b → cond b (32 + 11) (40 + 27) + length address ≡ besides method address
      by b e = ap (λ (z : Bool). cond z (32 + 11) (40 + 27) + length address) (sym e)

      go : (b : Bool) → leb method 2 ≡ b → head_of method address ≡ besides method address
      go true e =
          let l = k.0 in
          let o = overhead-plain method l (leb-true method 2 e) in
          let h : head_of method address ≡ 32 + 11 + length address = omega arith in
          h ∙ by true e
      go false e =
          let o = overhead-extended method (leb-false method 2 e) k.1 in
          let h : head_of method address ≡ 40 + 27 + length address = omega arith in
          h ∙ by false e

  pub besides-most : (limit : ℕ) → most_of method address limit ≡ limit - besides method address
  besides-most limit = ap (λ (h : ℕ). limit - h) besides-head

module _ (method : ℕ) (address : List ℕ) (limit n : ℕ) where
  pub data Cases : Type 0 where
    unknown : (KnownMethod method → ⊥) → capacity_answer method address limit n ≡ Err Settings → Cases
    wrong : KnownMethod method → (Arguments method address limit n → ⊥) → capacity_answer method address limit n ≡ Err Argument → Cases
    lawful : Lawful method address limit n → capacity_answer method address limit n ≡ Ok (limit - besides method address) → Cases

  module _ (f : overhead_of method ≡ 0 → ⊥) where
    known : KnownMethod method
    known = overhead-tells method f

    abbrev most : ℕ
    most = limit - besides method address

    by-limit : is_address address ≡ true → (a b c : Bool) → leb limit 65507 ≡ a → eqb n 0 ≡ b → ltb 0 most ≡ c → Cases
    by-limit ea a b c fa fb fc = go a b c fa fb fc
      where
        through : (r : Result ℕ Refusal) → r ≡ limit_answer most limit n → capacity_answer method address limit n ≡ r
        through r er =
            sym (a-method method address limit n _ refl f r
            (an-address _ address limit n ea most (sym (besides-most method address known limit)) r er))

        go : (a b c : Bool) → leb limit 65507 ≡ a → eqb n 0 ≡ b → ltb 0 most ≡ c → Cases
        go false b c fa fb fc =
            let l = leb-false limit 65507 fa in
            wrong known (λ x. let m = x.limit-most in omega arith) (through _ (limit-over _ limit n l))
        go true true c fa fb fc =
            let l = leb-true limit 65507 fa in
            let z = eqb-true n 0 fb in
            lawful (known, record { one_address = ea; limit-most = l; room-for-one = λ p. absurd (omega arith) })
            (through _ (limit-none _ limit n l z))
        go true false false fa fb fc =
            let l = leb-true limit 65507 fa in
            let z = eqb-false n 0 fb in
            let p : 0 < n = omega arith in
            let m = ltb-false 0 most fc in
            let e : most ≡ 0 = omega arith in
            wrong known (λ x. let r = x.room-for-one p in omega arith) (through _ (limit-small _ limit n l z e))
        go true false true fa fb fc =
            let l = leb-true limit 65507 fa in
            let z = eqb-false n 0 fb in
            let m = ltb-true 0 most fc in
            lawful (known, record { one_address = ea; limit-most = l; room-for-one = λ p. omega arith })
            (through _ (limit-some _ limit n l z (λ e. omega arith)))

    by_address : (b : Bool) → is_address address ≡ b → Cases
    by_address false e =
        wrong known (λ x. false-true (sym e ∙ x.one_address))
        (sym (a-method method address limit n _ refl f _ (no_address _ address limit n e)))
    by_address true e = by-limit e _ _ _ refl refl refl

  by-method : (b : Bool) → eqb (overhead_of method) 0 ≡ b → Cases
  by-method true e =
      let z = eqb-true (overhead_of method) 0 e in
      unknown (λ k. overhead-some method k.0 k.1 z) (sym (no-method method address limit n _ refl z))
  by-method false e = by_address (eqb-false (overhead_of method) 0 e) _ refl

  pub cases : Cases
  cases = by-method _ refl
