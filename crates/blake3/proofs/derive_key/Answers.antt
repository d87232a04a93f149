use borrow.Author.Rules.{rules}
use Rattle.blake3.proofs.DerivationLaws.{refused-context, refused-material, derived-at}
use Rattle.blake3.proofs.derive_key.Goals as goal

pub returns-then-context-gt64 : goal.returns-then-context-gt64
returns-then-context-gt64 c =
    let a = c.args in
    refused-context a.context.now a.material.now (search rules)

pub returns-then-material-gt64 : goal.returns-then-material-gt64
returns-then-material-gt64 c =
    let a = c.args in
    refused-material a.context.now a.material.now (search rules)

pub returns : goal.returns
returns c =
    let a = c.args in
    derived-at a.context.now a.material.now (search rules) (search rules) c.context_key.ensures c.derive_at-bytes.ensures
