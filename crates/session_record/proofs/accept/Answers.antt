use mathlib.Core.Path.{sym, ap, ◌∙◌}
use Rattle.session_record.specs.Record.{record_of}
use Rattle.session_window.specs.Window.{number}
use Rattle.session_record.proofs.WindowLaws.{fresh-below, marked-above, marked-below, accepts}
use Rattle.session_record.proofs.accept.Goals as goal
use Rattle.session_record.proofs.accept.Goals.{then-s-p, else-s-p}

pub with_mark-marks-requires : goal.with_mark-marks-requires
unfolding number
with_mark-marks-requires c =
    fresh-below (record_of c.args.s) c.args.p c.if-s-p.false c.requires

pub returns : goal.returns
unfolding number
returns c =
    let a = c.args in
    let r = record_of a.s in
    accepts r a.clock a.p a.peer _ _ _ _ c.max.ensures c.max-2.ensures
    (elim c.if-s-p.branch [
      | then-s-p w ↦ ap number w.marks-is ∙ w.shifted-marks.ensures ∙ sym (marked-above r.marks r.h a.p w.if-s-p.true)
      | else-s-p w ↦ ap number w.marks-is ∙ w.with_mark-marks.ensures ∙ sym (marked-below r.marks r.h a.p w.if-s-p.false)
    ])
    c.one_more.ensures
