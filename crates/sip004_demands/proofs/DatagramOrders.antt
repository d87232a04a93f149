-- Sealing and opening a datagram answer by their orders.
-- Assumes nothing.
use Rattle.std.specs.Prelude.{None, Ok, Result, Some}
use mathlib.Core.Path.{◌≡◌, refl, sym, ap, ◌∙◌}
use mathlib.Core.Bool.{Bool, true, false, cond, not, ◌&&◌, ◌||◌, or-false, and-eq-true_iff}
use mathlib.Core.List.{List, [], ◌∷◌}
use Prim.Native.Nat.{ℕ, ◌+◌}
use native.Mathlib.Omega.{arith}
use lib.Dec.{T, eqb, leb, eqb→eq}
use lib.ListN.{length}
use borrow.Author.Tests.{leb-true}
use Rattle.sip004.specs.Method.{aes128, aes192, aes256, method_of, asks_key, key_fits, settings_fit}
use Rattle.sip004.specs.Datagram.{max_datagram, overhead, length_answer, seal_answer, due_answer, lawful_answer, body_authentic, judged, open_answer}
use Rattle.sip004.proofs.MethodLaws.{settings-both}
use Rattle.protocol.specs.Orders.{rule, Said, gives, first}
use Rattle.protocol.proofs.OrderLaws.{next, done, not-and, under, under-or-over, eqb-turned}
use Rattle.sip004_demands.specs.DatagramOrders.{said_sealed, said_opened, other_key, sealed_bytes, seal_order, due_bytes, open_order, DatagramOrders}
use Rattle.sip004_demands.proofs.DatagramLaws.{authentic-is}
use Rattle.protocol.specs.declared.Refusal.{Refusal}

-- ---- settings

other_key_lem : (method k : ℕ) → other_key method k ≡ not (key_fits method k)
unfolding key_fits method_of
other_key_lem method k = go (eqb method 11) (eqb method 12) (eqb method 13) (eqb→eq method 11) (eqb→eq method 12) (eqb→eq method 13)
  where
    go : (a b c : Bool) → (T a → method ≡ 11) → (T b → method ≡ 12) → (T c → method ≡ 13)
        → not (a && eqb k 16 || (b && eqb k 24 || c && eqb k 32))
        ≡ not (asks_key (cond a (Some aes128) (cond b (Some aes192) (cond c (Some aes256) None))) k)
    go true true c f g h = absurd (let x = f tt in let y = g tt in omega arith)
    go true false true f g h = absurd (let x = f tt in let y = h tt in omega arith)
    go true false false f g h = ap not (or-false (eqb k 16) ∙ eqb-turned k 16)
    go false true true f g h = absurd (let x = g tt in let y = h tt in omega arith)
    go false true false f g h = ap not (or-false (eqb k 24) ∙ eqb-turned k 24)
    go false false true f g h = ap not (eqb-turned k 32)
    go false false false f g h = refl

unsuited : (method key salt : ℕ) → (other_key method key || not (eqb key salt)) ≡ not (settings_fit method key salt)
unsuited method key salt =
    ap (λ (b : Bool). b || not (eqb key salt)) (other_key_lem method key) ∙ not-and (key_fits method key) (eqb key salt)
    ∙ ap not (sym (settings-both method key salt))

-- ---- sealing

module _ (method key salt payload room : ℕ) where
  abbrev bytes : ℕ
  bytes = sealed_bytes salt payload

  whole : payload + overhead salt ≡ bytes
  whole = omega arith

  seal-order : said_sealed (seal_answer method key salt payload room) ≡ first (seal_order method key salt payload room) bytes
  unfolding seal_answer length_answer
  seal-order =
      next said_sealed (settings_fit method key salt) _ _ bytes (unsuited method key salt) refl λ _.
      next said_sealed (leb (payload + overhead salt) max_datagram) _ _ bytes
      (under 65507 bytes ∙ ap (λ (n : ℕ). not (leb n 65507)) (sym whole)) refl λ _.
      next said_sealed (leb (payload + overhead salt) room) _ _ bytes (under room bytes ∙ ap (λ (n : ℕ). not (leb n room)) (sym whole)) refl λ _.
      ap gives whole ∙ done bytes

-- ---- opening

-- the tag's rule
tagged : (n : ℕ) (b : Bool) → said_opened (judged (Ok n) b) ≡ first (rule 4 (not b) ∷ []) n
unfolding first
tagged n true = refl
tagged n false = refl

module _ (method : ℕ) (key s : List ℕ) (room : ℕ) where
  abbrev due : ℕ
  due = due_bytes key s

  -- what is said where the lengths came to this answer
  abbrev said : Result ℕ Refusal → Said ℕ
  said a = said_opened (judged a (body_authentic key s))

  open_order_lem : said_opened (open_answer method key s room) ≡ first (open_order method key s room) due
  unfolding open_answer lawful_answer due_answer
  open_order_lem =
      next said (key_fits method (length key)) _ _ due (other_key_lem method (length key)) refl λ _.
      next said (leb (overhead (length key)) (length s) && leb (length s) max_datagram) _ _ due
      (under-or-over (length s) (overhead (length key)) max_datagram) refl λ fits.
      let bounds = (and-eq-true_iff (leb (overhead (length key)) (length s)) (leb (length s) max_datagram)).0 fits in
      let least = leb-true (overhead (length key)) (length s) bounds.0 in
      next said (leb due room) _ _ due (under room due) refl λ _.
      tagged due (body_authentic key s) ∙ ap (λ (b : Bool). first (rule 4 (not b) ∷ []) due) (authentic-is key s least)

pub datagram-orders : DatagramOrders
datagram-orders = record { sealing = seal-order; opening = open_order_lem }
