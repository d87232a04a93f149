-- Each datagram of a good plan, sealed by a client, is at most the limit and never refused for its length.
-- Assumes nothing.
use Rattle.std.specs.Prelude.{Err, Ok, Result}
use mathlib.Core.Bool.{Bool, true, false}
use mathlib.Core.List.{List, [], ◌∷◌}
use mathlib.Core.Path.{◌≡◌, refl, sym, ap, ◌∙◌}
use Prim.Native.Nat.{ℕ, ◌+◌, ◌-◌, ◌^◌, ◌≤◌}
use native.Mathlib.Omega.{arith}
use lib.Dec.{eqb, leb}
use lib.ListN.{length}
use borrow.Author.Tests.{eqb-true, eqb-false, leb-true, leb-false}
use Rattle.protocol.specs.declared.Refusal.TheVariants.{Settings, Length, Room, Counter}
use Rattle.protocol.specs.Refusal.{refusal_number}
use Rattle.protocol.specs.Method.{key_fits, cipher_of}
use Rattle.datagram_parts.specs.declared.Side.TheVariants.{Client}
use Rattle.datagram_parts.proofs.OverheadLaws.{overhead-cipher}
use Rattle.datagram_seal.specs.Sealing.{nonce_fits, sealed_length, capped, length_answer, seal_answer, datagram}
use Rattle.datagram_seal.proofs.AnswerLaws.{capped-within, fitting, no_room, counter-used, good-argument, unlawful-key, unlawful-nonce, lawful}
use Rattle.datagram_seal.proofs.LengthLaws.{length-datagram}
use Rattle.plan_pieces.specs.Plans.{Piece, Each}
use Rattle.plan.specs.Answers.{head_of}
use Rattle.plan_demands.specs.Plans.{KnownMethod, besides, Lawful}
use Rattle.plan_demands.specs.Seals.{client_at, Serves, length_of, Seals, EachSeals, PlanSeals}
use Rattle.plan_demands.proofs.MethodLaws.{overhead-some, nonce-serves}
use Rattle.plan_demands.proofs.CaseLaws.{besides-head}
use Rattle.protocol.specs.declared.Refusal.{Refusal}

-- The plan's bytes besides piece and padding are the sealer's own.
pub head-sealed : (method : ℕ) (address : List ℕ) → KnownMethod method → (padding payload : ℕ)
    → head_of method address + padding + payload ≡ sealed_length (cipher_of method) Client (length address) padding payload
unfolding sealed_length
head-sealed method address k padding payload = let o = overhead-cipher method (overhead-some method k.0 k.1) in omega arith

abbrev refused_number : Result ℕ Refusal → ℕ
refused_number (Ok n) = 0
refused_number (Err r) = refusal_number r

module _ (method : ℕ) (address : List ℕ) (limit n : ℕ) (l : Lawful method address limit n) where
  module _ (x : Piece) (fits : besides method address + x.padding + x.bytes ≤ limit) where
    abbrev size : ℕ
    size = length_of method address x

    size-within : size ≤ limit
    size-within =
        let e = head-sealed method address l.0 x.padding x.bytes in
        let h = besides-head method address l.0 in
        omega arith

    size-some : size ≡ 0 → ⊥
    unfolding sealed_length
    size-some e = omega arith

    size-capped : size ≡ capped size
    size-capped = let m = l.1.limit-most in let w = size-within in capped-within size (omega arith)

    module _ (k nonce id packet room : ℕ) where
      abbrev answer : Result ℕ Refusal
      answer = seal_answer method k nonce (client_at id packet) address x.padding x.bytes room

      -- what is answered behind 1 and 12
      behind : key_fits method k ≡ true → nonce_fits (cipher_of method) nonce ≡ true → (r : Result ℕ Refusal) → r ≡ length_answer packet size room → answer ≡ r
      behind e f r er =
          sym
          (lawful method k nonce (client_at id packet) address x.padding x.bytes room (cipher_of method) refl e f r
          (good-argument (cipher_of method) (client_at id packet) address x.padding x.bytes room l.1.one_address refl size size-capped r er))

      sealed : key_fits method k ≡ true → nonce_fits (cipher_of method) nonce ≡ true → (packet ≡ 2 ^ 64 - 1 → ⊥) → size ≤ room → answer ≡ Ok size
      sealed e f g r = behind e f _ (fitting packet size room g size-some r)

      never : answer ≡ Err Length → ⊥
      never e =
          go (key_fits method k) (nonce_fits (cipher_of method) nonce) (eqb packet (2 ^ 64 - 1)) (leb size room) refl refl refl refl
        where
          -- another answer than refusal 2
          other : (s : Result ℕ Refusal) → answer ≡ s → (refused_number s ≡ 2 → ⊥) → ⊥
          other s a f = f (ap refused_number (sym a ∙ e))

          go : (a b c d : Bool) → key_fits method k ≡ a → nonce_fits (cipher_of method) nonce ≡ b → eqb packet (2 ^ 64 - 1) ≡ c → leb size room ≡ d → ⊥
          go false b c d ea eb ec ed =
              other (Err Settings)
              (sym (unlawful-key method k nonce (client_at id packet) address x.padding x.bytes room ea)) (λ z. omega arith)
          go true false c d ea eb ec ed =
              other (Err Settings)
              (sym (unlawful-nonce method k nonce (client_at id packet) address x.padding x.bytes room (cipher_of method) refl ea eb)) (λ z. omega arith)
          go true true true d ea eb ec ed =
              other (Err Counter) (behind ea eb _ (counter-used packet _ room (eqb-true packet (2 ^ 64 - 1) ec))) (λ z. omega arith)
          go true true false true ea eb ec ed =
              other (Ok size) (sealed ea eb (eqb-false packet (2 ^ 64 - 1) ec) (leb-true size room ed)) (λ z. omega arith)
          go true true false false ea eb ec ed =
              other (Err Room)
              (behind ea eb _ (no_room packet _ room (eqb-false packet (2 ^ 64 - 1) ec) size-some (leb-false size room ed))) (λ z. omega arith)

    bytes_fit : (key nonce : List ℕ) → Serves method (length nonce) → (id packet time : ℕ) (payload : List ℕ) → length payload ≡ x.bytes
        → length (datagram (cipher_of method) key nonce (client_at id packet) time address x.padding payload) ≤ limit
    bytes_fit key nonce v id packet time payload e =
        let w = size-within in
        let d = length-datagram (cipher_of method) key nonce (client_at id packet) time address x.padding payload (nonce-serves method (length nonce) v) in
        let s = ap (sealed_length (cipher_of method) Client (length address) x.padding) e in
        omega arith

    piece-seals : Seals method address limit x
    piece-seals = record {
      within = size-within;
      bytes-within = bytes_fit;
      never-2 = never;
      sealed = λ k nonce id packet room e v f r.
          let w = size-within in sealed k nonce id packet room e (nonce-serves method nonce v) f (omega arith);
    }

  each-seals : (p : List Piece) → Each (besides method address) limit p → EachSeals method address limit p
  each-seals [] e = tt
  each-seals (x ∷ p) e = (piece-seals x e.0.1, each-seals p e.1)

pub plan-seals : PlanSeals
plan-seals method address limit n l p g = each-seals method address limit n l p g.0.1
