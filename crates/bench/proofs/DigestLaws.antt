-- A hash, answered by a number. Assumes nothing.
use mathlib.Core.Path.{◌≡◌, sym, ap, ◌∙◌}
use mathlib.Core.Bool.{Bool, true, false, cond}
use mathlib.Core.List.{List}
use Prim.Native.Nat.{ℕ, ◌≤◌, ◌<◌}
use lib.ListN.{length}
use borrow.Author.Tests.{le-leb, lt-leb}
use Rattle.octets.specs.Buffers.{put}
use Rattle.blake3.specs.Tree.{hash}
use Rattle.bench.specs.Answer.{answer, digest_fits, digest_out}

module _ (text out : List ℕ) where
  decided : (l : Bool) → digest_fits out ≡ l
      → (answer l ≡ answer (digest_fits out)) × (cond l (put out 0 (hash text)) out ≡ digest_out text out)
  unfolding digest_out
  decided l e = (ap answer (sym e), ap (λ (b : Bool). cond b (put out 0 (hash text)) out) (sym e))

  pub no_room : length out < 32 → (1 ≡ answer (digest_fits out)) × (out ≡ digest_out text out)
  unfolding digest_fits
  no_room h = decided false (lt-leb 32 (length out) h)

  pub digest-done : 32 ≤ length out → (o : List ℕ) → o ≡ put out 0 (hash text)
      → (0 ≡ answer (digest_fits out)) × (o ≡ digest_out text out)
  unfolding digest_fits
  digest-done h o e =
      let d = decided true (le-leb 32 (length out) h) in
      (d.0, e ∙ d.1)
