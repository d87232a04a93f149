use Rattle.bench.proofs.SubkeyLaws.{long-key, long-salt, no-space, subkey-done}
use Rattle.bench.proofs.bench_subkey.Goals as goal

pub returns : goal.returns
returns c = let all = subkey-done _ _ _ c.if-key-gt32.false c.if-salt-gt32.false c.if-out-lt32.false _ c.derive_subkey.ensures in record { value = all.0; out_after = all.1 }

pub returns-then-key-gt32 : goal.returns-then-key-gt32
returns-then-key-gt32 c = let all = long-key _ _ _ c.if-key-gt32.true in record { value = all.0; out_after = all.1 }

pub returns-then-salt-gt32 : goal.returns-then-salt-gt32
returns-then-salt-gt32 c = let all = long-salt _ _ _ c.if-key-gt32.false c.if-salt-gt32.true in record { value = all.0; out_after = all.1 }

pub returns-then-out-lt32 : goal.returns-then-out-lt32
returns-then-out-lt32 c = let all = no-space _ _ _ c.if-key-gt32.false c.if-salt-gt32.false c.if-out-lt32.true in record { value = all.0; out_after = all.1 }
