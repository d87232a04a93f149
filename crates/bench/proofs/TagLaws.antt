-- What asks for room for a tag, and what is opened by one, answered by a number. Assumes nothing.
use mathlib.Core.Path.{◌≡◌, sym, ap, ap₂, ◌∙◌}
use mathlib.Core.Bool.{Bool, true, false, cond, ◌&&◌}
use mathlib.Core.List.{List}
use Prim.Native.Nat.{ℕ, ◌-◌, ◌≤◌, ◌<◌}
use lib.Dec.{leb}
use lib.ListN.{length}
use borrow.Author.Tests.{le-leb, lt-leb}
use Rattle.octets.specs.Buffers.{put}
use Rattle.bench.specs.Answer.{answer, tag_fits, where_tag_fits, text_fits, verdict_number, verdict_out}

module _ (s written : List ℕ) where
  decided : (l : Bool) → tag_fits s ≡ l → (answer l ≡ answer (tag_fits s)) × (cond l written s ≡ where_tag_fits s written)
  unfolding where_tag_fits
  decided l e = (ap answer (sym e), ap (λ (b : Bool). cond b written s) (sym e))

  pub no-tag : length s < 16 → (1 ≡ answer (tag_fits s)) × (s ≡ where_tag_fits s written)
  unfolding tag_fits
  no-tag h = decided false (lt-leb 16 (length s) h)

  pub tag-done : 16 ≤ length s → (o : List ℕ) → o ≡ written → (0 ≡ answer (tag_fits s)) × (o ≡ where_tag_fits s written)
  unfolding tag_fits
  tag-done h o e =
      let d = decided true (le-leb 16 (length s) h) in
      (d.0, e ∙ d.1)

module _ (s out text : List ℕ) (good : Bool) where
  refused : text_fits s out ≡ false
      → (1 ≡ verdict_number (text_fits s out) good) × (out ≡ verdict_out (text_fits s out) good text out)
  unfolding verdict_number verdict_out
  refused e =
      (ap (λ (f : Bool). verdict_number f good) (sym e), ap (λ (f : Bool). verdict_out f good text out) (sym e))

  pub no-tag-to-open : length s < 16
      → (1 ≡ verdict_number (text_fits s out) good) × (out ≡ verdict_out (text_fits s out) good text out)
  unfolding text_fits tag_fits
  no-tag-to-open h = refused (ap (λ (b : Bool). b && leb (length s - 16) (length out)) (lt-leb 16 (length s) h))

  pub no-room-for-text : 16 ≤ length s → length out < length s - 16
      → (1 ≡ verdict_number (text_fits s out) good) × (out ≡ verdict_out (text_fits s out) good text out)
  unfolding text_fits tag_fits
  no-room-for-text k h =
      refused (ap₂ ◌&&◌ (le-leb 16 (length s) k) (lt-leb (length s - 16) (length out) h))

  pub judged : 16 ≤ length s → length s - 16 ≤ length out → (b : Bool) → b ≡ good → (o : List ℕ) → o ≡ cond b (put out 0 text) out
      → (cond b 0 2 ≡ verdict_number (text_fits s out) good) × (o ≡ verdict_out (text_fits s out) good text out)
  unfolding text_fits tag_fits verdict_number verdict_out
  judged k h b e o w =
      let f = ap₂ ◌&&◌ (le-leb 16 (length s) k) (le-leb (length s - 16) (length out) h) in (
        ap (λ (x : Bool). cond x 0 2) e ∙ ap (λ (x : Bool). verdict_number x good) (sym f),
        w ∙ ap (λ (x : Bool). cond x (put out 0 text) out) e ∙ ap (λ (x : Bool). verdict_out x good text out) (sym f),
      )
