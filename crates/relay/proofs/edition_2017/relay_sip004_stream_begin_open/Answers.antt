use Rattle.std.specs.Prelude.{Result}
use mathlib.Core.Path.{ap, ◌∙◌}
use Rattle.stream_answers.specs.Beginning.{begins, receiver_told}
use Rattle.relay.proofs.edition_2017.relay_sip004_stream_begin_open.Goals as goal
use Rattle.stream_open.specs.declared.Receiver.{Receiver}
use Rattle.protocol.specs.declared.Refusal.{Refusal}

pub returns : goal.returns
returns c =
    let stream = c.args.stream.now in
    c.write_receiver.ensures ∙ ap (λ (x : Result Receiver Refusal). begins (receiver_told x stream) stream) c.begin_open.ensures
