-- Each return is one case of beginning in lent words.
use Rattle.std.specs.Prelude.{Result}
use mathlib.Core.List.{List}
use mathlib.Core.Path.{refl, ap}
use Prim.Native.Nat.{ℕ}
use native.Mathlib.Omega.{arith}
use Rattle.protocol.specs.declared.Refusal.{Refusal}
use Rattle.stream_answers.specs.Beginning.{words_told}
use Rattle.stream_answers.proofs.BeginLaws.{not-lent, has-begun, not-begun}
use Rattle.stream_answers.proofs.begin.write_begun.Goals as goal

pub returns-then-stream-ne-STREAM : goal.returns-then-stream-ne-STREAM
returns-then-stream-ne-STREAM c =
    let a = c.args in
    not-lent (words_told a.begun a.stream.now) a.stream.now c.if-stream-ne-STREAM.true

pub returns-in-Ok : goal.returns-in-Ok
returns-in-Ok c =
    let a = c.args in
    has-begun (words_told a.begun a.stream.now) a.stream.now c.if-stream-ne-STREAM.false _ _ _
    (ap (λ (x : Result (List ℕ) Refusal). words_told x a.stream.now) c.in-Ok.is) (omega arith) refl c.write.ensures

pub returns-in-Err : goal.returns-in-Err
returns-in-Err c =
    let a = c.args in
    not-begun (words_told a.begun a.stream.now) a.stream.now c.if-stream-ne-STREAM.false _ _
    (ap (λ (x : Result (List ℕ) Refusal). words_told x a.stream.now) c.in-Err.is) c.number.ensures
