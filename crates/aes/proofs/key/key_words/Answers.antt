use mathlib.Core.Path.{sym, ap}
use native.Mathlib.Omega.{arith}
use borrow.Author.Tests.{ne_eqb}
use Rattle.aes.specs.Keyed.{nk_of}
use Rattle.aes.proofs.key.key_words.Goals as goal

pub returns-in-16-clause-some : goal.returns-in-16-clause-some
unfolding nk_of
returns-in-16-clause-some c = (sym (ap nk_of c.in-16.is), record { words = c.in-16.is; least = omega arith; most = omega arith })

pub returns-in-24-clause-some : goal.returns-in-24-clause-some
unfolding nk_of
returns-in-24-clause-some c = (sym (ap nk_of c.in-24.is), record { words = c.in-24.is; least = omega arith; most = omega arith })

pub returns-in-32-clause-some : goal.returns-in-32-clause-some
unfolding nk_of
returns-in-32-clause-some c = (sym (ap nk_of c.in-32.is), record { words = c.in-32.is; least = omega arith; most = omega arith })

pub returns-in_default-clause-none : goal.returns-in_default-clause-none
unfolding nk_of
returns-in_default-clause-none c = simp (ne_eqb _ _ c.in_default.in_default-own.rest.0.0.1, ne_eqb _ _ c.in_default.in_default-own.rest.0.1, ne_eqb _ _ c.in_default.in_default-own.rest.1)
