use mathlib.Core.Path.{◌≡◌, sym, ap, ◌∙◌}
use mathlib.Core.Bool.{Bool, cond}
use mathlib.Core.List.{[], ◌∷◌}
use Prim.Native.Nat.{ℕ}
use borrow.Author.Tests.{eq-eqb, ne_eqb}
use lib.Dec.{eqb}
use Rattle.octets.specs.Buffers.{◌⊞◌}
use Rattle.aes_tables.specs.Field.{x_times}
use Rattle.aes.specs.KeyExpansion.{sub_word, rcon}
use Rattle.aes.proofs.WordLaws.{bytes-xor}
use Rattle.aes.proofs.KeyLaws.{temp-first, temp-fourth, temp-other, temp-short}
use Rattle.aes.proofs.key.temp.Goals as goal

pub returns-then-at-eq0 : goal.returns-then-at-eq0
unfolding rcon
returns-then-at-eq0 c =
    let first = c.if-at-eq0.true in
    let x = c.args.c in record {
      by_index = λ i em ec.
          bytes-xor _ _
          ∙ (λ j. (c.sub_word.ensures ∙ ap sub_word c.rot_word.ensures) j
          ⊞ (c.pack.ensures ∙ ap (λ (x : ℕ). x ∷ 0 ∷ 0 ∷ 0 ∷ []) (sym (ec first))) j)
          ∙ sym (temp-first _ i _ (em ∙ first));
      constant_value = c.x_times.ensures ∙ sym (ap (λ (b : Bool). cond b (x_times x) x) (eq-eqb _ _ first));
    }

-- the constant stays
stays : (at c : ℕ) → (at ≡ 0 → ⊥) → c ≡ cond (eqb at 0) (x_times c) c
stays at c n = sym (ap (λ (b : Bool). cond b (x_times c) c) (ne_eqb at 0 n))

pub returns-then-at-eq4 : goal.returns-then-at-eq4
returns-then-at-eq4 c =
    let other = c.if-at-eq0.false in record {
      by_index = λ i em ec.
          c.sub_word-then-at-eq4.ensures
          ∙ sym (temp-fourth _ i _ (λ e. other (sym em ∙ e)) c.if-nk-gt6.true (em ∙ c.if-at-eq4.true));
      constant_value = stays _ _ other;
    }

pub returns-else-at-eq4 : goal.returns-else-at-eq4
returns-else-at-eq4 c =
    let other = c.if-at-eq0.false in record { by_index = λ i em ec. sym (temp-other _ i _ (λ e. other (sym em ∙ e)) c.if-nk-gt6.true (λ e. c.if-at-eq4.false (sym em ∙ e))); constant_value = stays _ _ other }

pub returns-else-nk-gt6 : goal.returns-else-nk-gt6
returns-else-nk-gt6 c =
    let other = c.if-at-eq0.false in record { by_index = λ i em ec. sym (temp-short _ i _ (λ e. other (sym em ∙ e)) c.if-nk-gt6.false); constant_value = stays _ _ other }
