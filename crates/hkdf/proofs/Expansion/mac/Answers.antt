use mathlib.Core.Path.{ap, ◌∙◌}
use Prim.Native.Nat.{ℕ, ◌+◌, ◌-◌}
use lib.ListN.{take, drop}
use Rattle.hmac.specs.Hmac.{mac_with}
use Rattle.hkdf.specs.Buffer.{message}
use Rattle.hkdf.proofs.Expansion.mac.Goals as goal

pub returns : goal.returns
unfolding message
returns c =
    let e = c.args.self.now in
    c.mac.ensures ∙ ap (λ (f : ℕ). mac_with e.key (take (21 + e.info_len - f) (drop f e.buffer))) c.start_at-from.ensures.value
