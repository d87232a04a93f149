use Rattle.std.specs.Prelude.{Result}
use mathlib.Core.Path.{ap, ◌∙◌}
use Rattle.relay.specs.Datagrams.{begins}
use Rattle.relay.proofs.datagrams.relay_session_begin_server.Goals as goal
use Rattle.datagram_seal.specs.declared.Sender.{Sender}
use Rattle.protocol.specs.declared.Refusal.{Refusal}

pub returns : goal.returns
returns c =
    c.begin.ensures ∙ ap (λ (x : Result Sender Refusal). begins x c.args.session.now) c.begin_reply.ensures
