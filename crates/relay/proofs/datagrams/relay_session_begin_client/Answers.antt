use Rattle.std.specs.Prelude.{Ok}
use mathlib.Core.Path.{ap, ◌∙◌}
use Rattle.datagram_seal.specs.declared.Sender.{Sender}
use Rattle.relay.specs.Datagrams.{begins}
use Rattle.relay.proofs.datagrams.relay_session_begin_client.Goals as goal

pub returns : goal.returns
returns c =
    c.begin.ensures ∙ ap (λ (s : Sender). begins (Ok s) c.args.session.now) c.client.ensures
