use mathlib.Core.Path.{◌∙◌}
use borrow.Author.Tests.{lt-ltb, lt-leb}
use Rattle.stream_seal_heads.proofs.HeadAnswerLaws.{padding-over, padding-none, padding-some}
use Rattle.stream_seal_heads.proofs.padding_lawful.Goals as goal

pub returns-then-padding-gt0 : goal.returns-then-padding-gt0
returns-then-padding-gt0 c = lt-ltb _ _ c.if-padding-gt0.true ∙ padding-some _ _ c.if-padding-le-MAX_PADDING.true c.if-padding-gt0.true

pub returns-else-padding-gt0 : goal.returns-else-padding-gt0
returns-else-padding-gt0 c = padding-none _ _ c.if-padding-le-MAX_PADDING.true c.if-padding-gt0.false

pub returns-else-padding-le-MAX_PADDING : goal.returns-else-padding-le-MAX_PADDING
returns-else-padding-le-MAX_PADDING c = lt-leb _ _ c.if-padding-le-MAX_PADDING.false ∙ padding-over _ _ c.if-padding-le-MAX_PADDING.false
