use mathlib.Core.Path.{ap, ◌∙◌}
use mathlib.Core.List.{List}
use Prim.Native.Nat.{ℕ}
use lib.ListN.{length}
use Rattle.hkdf.specs.Hkdf.{expand, hkdf, given}
use Rattle.hkdf.proofs.hkdf.Goals as goal

pub returns : goal.returns
unfolding hkdf
returns c =
    let a = c.args in record {
      value = c.expand.ensures.value;
      out_after = c.expand.ensures.out_after
          ∙ ap (λ (p : List ℕ). given c.expand.result (expand p a.info.now (length a.out.now)) a.out.now) c.extract-prk.ensures;
    }
