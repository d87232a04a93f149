-- A subkey, answered by a number. Assumes nothing.
use mathlib.Core.Path.{◌≡◌, sym, ap, ap₂, ◌∙◌}
use mathlib.Core.Bool.{Bool, true, false, cond, ◌&&◌}
use mathlib.Core.List.{List}
use Prim.Native.Nat.{ℕ, ◌≤◌, ◌<◌}
use lib.Dec.{leb}
use lib.ListN.{length}
use borrow.Author.Tests.{le-leb, lt-leb}
use Rattle.octets.specs.Buffers.{put}
use Rattle.protocol.specs.Subkey.{subkey}
use Rattle.bench.specs.Answer.{answer, subkey_lawful, subkey_out}

module _ (key salt out : List ℕ) where
  decided : (l : Bool) → subkey_lawful key salt out ≡ l
      → (answer l ≡ answer (subkey_lawful key salt out)) × (cond l (put out 0 (subkey key salt)) out ≡ subkey_out key salt out)
  unfolding subkey_out
  decided l e = (ap answer (sym e), ap (λ (b : Bool). cond b (put out 0 (subkey key salt)) out) (sym e))

  pub long-key : 32 < length key → (1 ≡ answer (subkey_lawful key salt out)) × (out ≡ subkey_out key salt out)
  unfolding subkey_lawful
  long-key h = decided false (ap (λ (b : Bool). b && (leb (length salt) 32 && leb 32 (length out))) (lt-leb (length key) 32 h))

  pub long-salt : length key ≤ 32 → 32 < length salt → (1 ≡ answer (subkey_lawful key salt out)) × (out ≡ subkey_out key salt out)
  unfolding subkey_lawful
  long-salt k h =
      decided false
      (ap₂ ◌&&◌ (le-leb (length key) 32 k) (ap (λ (b : Bool). b && leb 32 (length out)) (lt-leb (length salt) 32 h)))

  pub no-space : length key ≤ 32 → length salt ≤ 32 → length out < 32
      → (1 ≡ answer (subkey_lawful key salt out)) × (out ≡ subkey_out key salt out)
  unfolding subkey_lawful
  no-space k s h =
      decided false (ap₂ ◌&&◌ (le-leb (length key) 32 k) (ap₂ ◌&&◌ (le-leb (length salt) 32 s) (lt-leb 32 (length out) h)))

  pub subkey-done : length key ≤ 32 → length salt ≤ 32 → 32 ≤ length out → (o : List ℕ) → o ≡ put out 0 (subkey key salt)
      → (0 ≡ answer (subkey_lawful key salt out)) × (o ≡ subkey_out key salt out)
  unfolding subkey_lawful
  subkey-done k s h o e =
      let d =
      decided true (ap₂ ◌&&◌ (le-leb (length key) 32 k) (ap₂ ◌&&◌ (le-leb (length salt) 32 s) (le-leb 32 (length out) h))) in
      (d.0, e ∙ d.1)
