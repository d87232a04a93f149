-- One turn of each loop.
-- Assumes nothing.
use mathlib.Core.Path.{◌≡◌, sym, ap, ◌∙◌, subst}
use native.Mathlib.Nat.{mul-suc, mul-le-mul_left}
use mathlib.Core.List.{List}
use Prim.Native.Nat.{ℕ, ◌+◌, ◌*◌, ◌%◌, ◌^◌, ◌<◌, ◌≤◌}
use native.Mathlib.Numerals.{add-one}
use lib.Bits.{bit_xor}
use lib.ListN.{get_or, set}
use Rattle.aes_circuit.specs.Circuit.{◌⊻◌}
use Rattle.aes_turn.specs.Turn.{moved_of, low_word, high_word, exchange_of, stage_of, turn_of}

pub exchange-step : (s₀ : List ℕ) (at d m x : ℕ) (u : List ℕ) {t : ℕ} → u ≡ exchange_of s₀ at d m x
    → t ≡ moved_of d m (get_or u (at + x) 0) (get_or u (at + 4 * d + x) 0)
    → set (set u (at + 4 * d + x) (bit_xor (get_or u (at + 4 * d + x) 0) t)) (at + x) (bit_xor (get_or u (at + x) 0) (t * 2 ^ d % 2 ^ 32))
    ≡ exchange_of s₀ at d m (x + 1)
unfolding exchange_of low_word high_word ◌⊻◌
exchange-step s₀ at d m x u e f =
    (λ i. set (set u (at + 4 * d + x) (bit_xor (get_or u (at + 4 * d + x) 0) (f i))) (at + x) (bit_xor (get_or u (at + x) 0) (f i * 2 ^ d % 2 ^ 32)))
    ∙ ap (λ (v : List ℕ).
    set (set v (at + 4 * d + x) (high_word d m (get_or v (at + x) 0) (get_or v (at + 4 * d + x) 0))) (at + x)
    (low_word d m (get_or v (at + x) 0) (get_or v (at + 4 * d + x) 0))) e
    ∙ sym (ap (exchange_of s₀ at d m) (add-one x))

pub stage-step : (s₀ : List ℕ) (d m n : ℕ) {u v : List ℕ} → u ≡ stage_of s₀ d m n → v ≡ exchange_of u (8 * d * n) d m (4 * d) → v ≡ stage_of s₀ d m (n + 1)
unfolding stage_of
stage-step s₀ d m n e f = f ∙ ap (λ (x : List ℕ). exchange_of x (8 * d * n) d m (4 * d)) e ∙ sym (ap (stage_of s₀ d m) (add-one n))

-- a pair of rows ends where the next begins
pub pair-below : (d i n : ℕ) → i < n → 8 * d * i + 8 * d ≤ 8 * d * n
pair-below d i n h = subst (λ (x : ℕ). x ≤ 8 * d * n) (mul-suc (8 * d) i) (mul-le-mul_left (8 * d) h)

pub turn-parts : (s : List ℕ) {a b c d e : List ℕ} → a ≡ stage_of s 16 0xffff 1 → b ≡ stage_of a 8 0xff00ff 2 → c ≡ stage_of b 4 0xf0f0f0f 4
    → d ≡ stage_of c 2 0x33333333 8 → e ≡ stage_of d 1 0x55555555 16 → e ≡ turn_of s
unfolding turn_of
turn-parts s ea eb ec ed ee =
    ee ∙ (λ i. stage_of ((ed ∙ (λ i. stage_of ((ec ∙ (λ i. stage_of ((eb ∙ (λ i. stage_of (ea i) 8 0xff00ff 2)) i) 4 0xf0f0f0f 4)) i) 2 0x33333333 8)) i) 1 0x55555555 16)
