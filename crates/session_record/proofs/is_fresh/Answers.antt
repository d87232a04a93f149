use native.Mathlib.Omega.{arith}
use mathlib.Core.Bool.{not}
use mathlib.Core.Path.{sym, ap, ◌∙◌}
use Rattle.session_record.specs.Record.{record_of}
use Rattle.session_window.specs.Window.{number}
use Rattle.session_record.proofs.WindowLaws.{fresh-within}
use Rattle.session_record.proofs.is_fresh.Goals as goal

pub returns-then-d-lt-WINDOW : goal.returns-then-d-lt-WINDOW
unfolding number
returns-then-d-lt-WINDOW c =
    let a = c.args in
    ap not c.is_marked.ensures ∙ sym (fresh-within (record_of a.s) a.p c.if-s-p.false (omega arith))
