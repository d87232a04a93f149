use Rattle.std.specs.Prelude.{Result}
use mathlib.Core.Path.{ap, ◌∙◌}
use Rattle.stream_answers.specs.Beginning.{begins, sender_told}
use Rattle.relay.proofs.edition_2017.relay_sip004_stream_begin_seal.Goals as goal
use Rattle.stream_seal.specs.declared.Sender.{Sender}
use Rattle.protocol.specs.declared.Refusal.{Refusal}

pub returns : goal.returns
returns c =
    let stream = c.args.stream.now in
    c.write_sender.ensures ∙ ap (λ (x : Result Sender Refusal). begins (sender_told x stream) stream) c.begin_seal.ensures
