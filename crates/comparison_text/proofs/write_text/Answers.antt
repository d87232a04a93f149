-- `comparison_text::write_text` meets its contract.
-- Assumes nothing.
use mathlib.Core.Path.{refl}
use native.Mathlib.Omega.{arith}
use Rattle.recording.proofs.WellFormedLaws.{well-formed}
use Rattle.comparison_text.proofs.WholeLaws.{room-header, room-lines, whole}
use Rattle.comparison_text.proofs.write_text.Goals as goal

pub overflow_cast-m-2 : goal.overflow_cast-m-2
overflow_cast-m-2 c =
    record { fits = omega (arith, (well-formed _ c.requires.first_value.0).few) }

pub overflow_cast-n-2 : goal.overflow_cast-n-2
overflow_cast-n-2 c =
    record { fits = omega (arith, (well-formed _ c.requires.first_value.1).few) }

pub put_header-end-requires : goal.put_header-end-requires
put_header-end-requires c =
    room-header _ _ _ _ _ c.count-m.ensures c.count-n.ensures refl _ c.requires.second_in_bounds

pub put_lines-requires : goal.put_lines-requires
put_lines-requires c = record {
  first_value = (c.requires.first_value.0, c.requires.first_value.1, omega (arith, (well-formed _ c.requires.first_value.0).few, (well-formed _ c.requires.first_value.1).few));
  n_in_bounds = room-lines _ _ _ _ _ c.count-m.ensures c.count-n.ensures c.max.ensures _ _ _
      c.put_header-end.ensures c.requires.second_in_bounds;
}

pub returns : goal.returns
returns c =
    whole _ _ _ _ _ c.count-m.ensures c.count-n.ensures c.max.ensures
    c.put_header-end.ensures c.put_lines.ensures
