use mathlib.Core.Path.{ap, ap₂, ◌∙◌}
use Prim.Native.Nat.{ℕ}
use Rattle.ghash.specs.Ghash.{blocks, ghash_from}
use Rattle.ghash.specs.Words.{words}
use Rattle.ghash.proofs.DoubledLaws.{key_in_lem, table-for-key}
use Rattle.ghash.proofs.ElementLaws.{be-words}
use Rattle.bench.proofs.HashLaws.{no_key, no_room, hash-done}
use Rattle.bench.proofs.bench_ghash.Goals as goal

pub ghash_from-y-requires : goal.ghash_from-y-requires
ghash_from-y-requires c = table-for-key _ _ c.write_table.ensures

pub returns : goal.returns
returns c = let all = hash-done _ _ _ c.if-h-ne16.false c.if-out-lt16.false _ _ _
    (ap₂ words c.read_u64_be.ensures c.read_u64_be-2.ensures ∙ be-words _ 0)
    (c.ghash_from-y.ensures ∙ ap (λ (k : ℕ). ghash_from k 0 (blocks c.args.text.now)) (key_in_lem _ _ c.write_table.ensures))
    c.write_element.ensures in record { value = all.0; out_after = all.1 }

pub returns-then-h-ne16 : goal.returns-then-h-ne16
returns-then-h-ne16 c = let all = no_key _ _ _ c.if-h-ne16.true in record { value = all.0; out_after = all.1 }

pub returns-then-out-lt16 : goal.returns-then-out-lt16
returns-then-out-lt16 c = let all = no_room _ _ _ c.if-h-ne16.false c.if-out-lt16.true in record { value = all.0; out_after = all.1 }
