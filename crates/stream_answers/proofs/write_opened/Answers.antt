use mathlib.Core.Path.{ap, ◌∙◌}
use lib.Seq.{sets}
use mathlib.Core.List.{List}
use Prim.Native.Nat.{ℕ}
use Rattle.words.specs.States.{receiver_words}
use Rattle.words.proofs.LentLaws.{filled}
use Rattle.stream_answers.proofs.write_opened.Goals as goal

pub returns-clause-stream_after : goal.returns-clause-stream_after
returns-clause-stream_after c =
    let w = c.args.stream.now in
    c.write.ensures ∙ ap (λ (v : List ℕ). sets w 0 v) c.receiver_words.ensures ∙ filled w (receiver_words c.args.next) c.requires.stream_len
