-- A block times one is the block: from V₀ = one, Vᵢ has bit i alone, so Zᵢ has the first i bits of x.
-- Assumes nothing.
use mathlib.Core.Path.{◌≡◌, refl, sym, ap, ap₂, ◌∙◌}
use Prim.Native.Nat.{ℕ, zero, suc, ◌+◌, ◌-◌, ◌*◌, ◌/◌, ◌%◌, ◌^◌}
use native.Mathlib.Nat.{pow-suc, mul-div_cancel, mul-mod_left, mod-lt, mod-one, mod-eq_of_lt}
use native.Mathlib.Omega.{arith}
use lib.Bits.{xor_zero_l, xor_zero_r, xor_shifted}
use lib.Dec.{lit<}
use lib.Pow.{pow_pos, mod-pow-add}
use Rattle.octets.proofs.XorLaws.{xor_assoc}
use Rattle.ghash.specs.Field.{R, next, step_v, step_z, mul}
use Rattle.ghash_laws.specs.Laws.{Block, ◌⊕◌, ◌•◌, one}

next-pow : (k : ℕ) → next (2 ^ suc k) ≡ 2 ^ k
unfolding next
next-pow k =
    ap₂ (λ (h b : ℕ). h ⊕ b * R) (ap (λ (p : ℕ). p / 2) (pow-suc 2 k) ∙ mul-div_cancel (2 ^ k) (lit< tt))
    (ap (λ (p : ℕ). p % 2) (pow-suc 2 k) ∙ mul-mod_left (2 ^ k) 2)
    ∙ xor_zero_r (2 ^ k)

step_v-one : (n k : ℕ) → suc n + k ≡ 128 → step_v one n ≡ 2 ^ k
unfolding step_v
step_v-one zero k e = let l : 127 ≡ k = omega arith in ap (λ (m : ℕ). 2 ^ m) l
step_v-one (suc n) k e = ap next (step_v-one n (suc k) (omega arith)) ∙ next-pow k

-- one digit with those below it
digit-above : (x k : ℕ) → x / 2 ^ k % 2 * 2 ^ k ⊕ x % 2 ^ k ≡ x % 2 ^ (1 + k)
digit-above x k = xor_shifted (x / 2 ^ k % 2) k (x % 2 ^ k) (mod-lt x (pow_pos k)) ∙ sym (mod-pow-add x 1 k)

-- the first n bits of x, with the k bits that are left
step_z-one : (x n k : ℕ) → n + k ≡ 128 → step_z x one n ⊕ x % 2 ^ k ≡ x % 2 ^ 128
unfolding step_z
step_z-one x zero k e = let l : k ≡ 128 = omega arith in xor_zero_l (x % 2 ^ k) ∙ ap (λ (m : ℕ). x % 2 ^ m) l
step_z-one x (suc n) k e =
    let s : 127 - n ≡ k = omega arith in
    ap₂ (λ (m v : ℕ). step_z x one n ⊕ x / 2 ^ m % 2 * v ⊕ x % 2 ^ k) s (step_v-one n k e)
    ∙ xor_assoc (step_z x one n) (x / 2 ^ k % 2 * 2 ^ k) (x % 2 ^ k)
    ∙ ap (λ (v : ℕ). step_z x one n ⊕ v) (digit-above x k)
    ∙ step_z-one x n (1 + k) (omega arith)

pub times-one : (x : ℕ) → Block x → x • one ≡ x
unfolding mul
times-one x block =
    sym (ap (λ (v : ℕ). step_z x one 128 ⊕ v) (mod-one x) ∙ xor_zero_r (step_z x one 128)) ∙ step_z-one x 128 0 refl ∙ mod-eq_of_lt block
