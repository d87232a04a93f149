use Rattle.stream_heads.proofs.HeadLaws.{fixed-type, fixed-time, fixed-read}
use Rattle.stream_heads.proofs.read_fixed.Goals as goal

pub returns-then-byte_or_zero-kind : goal.returns-then-byte_or_zero-kind
returns-then-byte_or_zero-kind c = fixed-type _ _ _ _ c.byte_or_zero.ensures c.if-byte_or_zero-kind.true

pub returns-then-not-time_valid : goal.returns-then-not-time_valid
returns-then-not-time_valid c =
    fixed-time _ _ _ _ c.byte_or_zero.ensures c.if-byte_or_zero-kind.false _ _ c.read_u64_be-time.ensures c.time_valid.ensures c.if-not-time_valid.true

pub returns : goal.returns
returns c =
    fixed-read _ _ _ _ c.byte_or_zero.ensures c.if-byte_or_zero-kind.false _ _ c.read_u64_be-time.ensures c.time_valid.ensures c.if-not-time_valid.false _
    c.read_u16_be-length.ensures
