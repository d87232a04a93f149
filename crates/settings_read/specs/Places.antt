-- Where a setting's body begins: what the code looks for.
use Rattle.std.specs.Prelude.{List, ℕ, Option}
use Rattle.std.specs.Option.{option_map}
use Rattle.settings_file.specs.Format.{entry}

abbrev pub place_in : List ℕ → Option ℕ → Option ℕ
place_in s o = option_map (λ i. (entry s i).offset) o
