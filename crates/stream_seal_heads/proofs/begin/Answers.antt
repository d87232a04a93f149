use Rattle.stream_seal_heads.proofs.begin.Goals as goal

pub returns : goal.returns
returns c = λ i. record { method = c.args.method; counter = 2; subkey = c.derive.ensures i }
