-- GHASH of a text, answered by a number. Assumes nothing.
use mathlib.Core.Path.{◌≡◌, sym, ap, ap₂, ◌∙◌}
use mathlib.Core.Bool.{Bool, true, false, cond, ◌&&◌}
use mathlib.Core.List.{List}
use Prim.Native.Nat.{ℕ, ◌≤◌, ◌<◌}
use lib.Dec.{leb}
use lib.ListN.{length, drop}
use borrow.Author.Tests.{eq-eqb, ne_eqb, le-leb, lt-leb}
use Rattle.octets.specs.Buffers.{put}
use Rattle.octets.specs.Numbers.{be, to_be}
use Rattle.ghash.specs.Ghash.{blocks, ghash_from, ghash}
use Rattle.bench.specs.Answer.{answer, hash_lawful, hash_out}

module _ (h text out : List ℕ) where
  decided : (l : Bool) → hash_lawful h out ≡ l
      → (answer l ≡ answer (hash_lawful h out)) × (cond l (put out 0 (to_be 16 (ghash (be 16 h) (blocks text)))) out ≡ hash_out h text out)
  unfolding hash_out
  decided l e = (ap answer (sym e), ap (λ (b : Bool). cond b (put out 0 (to_be 16 (ghash (be 16 h) (blocks text)))) out) (sym e))

  pub no_key : (length h ≡ 16 → ⊥) → (1 ≡ answer (hash_lawful h out)) × (out ≡ hash_out h text out)
  unfolding hash_lawful
  no_key n = decided false (ap (λ (b : Bool). b && leb 16 (length out)) (ne_eqb (length h) 16 n))

  pub no_room : length h ≡ 16 → length out < 16 → (1 ≡ answer (hash_lawful h out)) × (out ≡ hash_out h text out)
  unfolding hash_lawful
  no_room e l = decided false (ap₂ ◌&&◌ (eq-eqb (length h) 16 e) (lt-leb 16 (length out) l))

  pub hash-done : length h ≡ 16 → 16 ≤ length out → (k y : ℕ) (o : List ℕ) → k ≡ be 16 (drop 0 h) → y ≡ ghash_from k 0 (blocks text)
      → o ≡ put out 0 (to_be 16 y) → (0 ≡ answer (hash_lawful h out)) × (o ≡ hash_out h text out)
  unfolding hash_lawful ghash
  hash-done e l k y o ek ey eo =
      let d = decided true (ap₂ ◌&&◌ (eq-eqb (length h) 16 e) (le-leb 16 (length out) l)) in
      (d.0, eo ∙ ap (λ (x : ℕ). put out 0 (to_be 16 x)) (ey ∙ ap (λ (x : ℕ). ghash_from x 0 (blocks text)) ek) ∙ d.1)
