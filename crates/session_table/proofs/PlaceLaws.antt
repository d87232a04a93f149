-- What a place that was found tells. Assumes nothing.
use Rattle.std.proofs.Common.{◌≡◌, ℕ, Option, None, Some, is_some, sym, ap}
use Rattle.records.specs.Records.{Finds}
use Rattle.session_table.specs.Sizes.{capacity}
use Rattle.session_table.specs.Table.{is_place}

pub some-place : (o : Option ℕ) (r : Option ℕ) → Finds capacity o r → is_some r ≡ is_place o
some-place o None e = sym (ap is_place e)
some-place o (Some i) e = sym (ap is_place e.1)
