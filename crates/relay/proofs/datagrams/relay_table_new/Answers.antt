use mathlib.Core.Path.{sym, ap, ◌∙◌}
use Rattle.relay.specs.Datagrams.{settings_number}
use Rattle.relay.proofs.datagrams.relay_table_new.Goals as goal

pub returns-then-make : goal.returns-then-make
returns-then-make c = record { value = ap settings_number (sym c.if-make.true ∙ c.make.ensures.value); table_after = c.make.ensures.table_after }

pub returns : goal.returns
returns c = record { value = ap settings_number (sym c.if-make.false ∙ c.make.ensures.value); table_after = c.make.ensures.table_after }
