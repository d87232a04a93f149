use mathlib.Core.Path.{ap, ◌∙◌}
use Rattle.hmac.specs.declared.Keyed.{Keyed}
use Rattle.hmac.specs.Hmac.{mac_with}
use Rattle.hmac.proofs.HmacLaws.{mac-keyed}
use Rattle.hmac.proofs.hmac.Goals as goal

pub returns : goal.returns
returns c =
    let a = c.args in
    let text = c.args.text.now in
    c.mac.ensures ∙ ap (λ (k : Keyed). mac_with k text) c.key.ensures ∙ mac-keyed a.secret.now text
