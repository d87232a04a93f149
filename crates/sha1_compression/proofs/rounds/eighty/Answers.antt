use Rattle.sha1_compression.proofs.RoundLaws.{ch-values, parity-values, maj-values, last-values, first-constant, second-constant, third-constant, fourth-constant, join}
use Rattle.sha1_compression.proofs.rounds.eighty.Goals as goal

pub returns : goal.returns
returns c =
    let a = c.args in
    let w = c.args.w.now in
    join w 0 a.s 60 20
    (join w 0 a.s 40 20 (join w 0 a.s 20 20 c.phase-z.ensures c.phase-z-2.ensures) c.phase-z-3.ensures)
    c.phase.ensures

pub phase-z-requires-clause-values : goal.phase-z-requires-clause-values
phase-z-requires-clause-values c = λ t x y z r l h e. ch-values t x y z r h e

pub phase-z-requires-clause-constants : goal.phase-z-requires-clause-constants
phase-z-requires-clause-constants c = λ t l h. first-constant t h

pub phase-z-requires-2-clause-values : goal.phase-z-requires-2-clause-values
phase-z-requires-2-clause-values c = parity-values

pub phase-z-requires-2-clause-constants : goal.phase-z-requires-2-clause-constants
phase-z-requires-2-clause-constants c = second-constant

pub phase-z-requires-3-clause-values : goal.phase-z-requires-3-clause-values
phase-z-requires-3-clause-values c = maj-values

pub phase-z-requires-3-clause-constants : goal.phase-z-requires-3-clause-constants
phase-z-requires-3-clause-constants c = third-constant

pub phase-requires-clause-values : goal.phase-requires-clause-values
phase-requires-clause-values c = λ t x y z r l h e. last-values t x y z r l e

pub phase-requires-clause-constants : goal.phase-requires-clause-constants
phase-requires-clause-constants c = λ t l h. fourth-constant t l
