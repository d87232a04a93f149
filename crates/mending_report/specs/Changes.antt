-- Changes of a recording's fields, and the words that report them.
-- Assumes nothing.
use Rattle.std.specs.Prelude.{cond, List, [], ◌∷◌, ◌++◌, ℕ, eqb}
use Rattle.recording.specs.declared.Entry.{Entry}

pub record Change : Type 0 where
  pub entry : ℕ
  pub field : ℕ
  pub old : ℕ
  pub new : ℕ

-- a field, if its number is another one
unfoldable pub changed : (i field old new : ℕ) → List Change
changed i field old new = cond (eqb old new) [] (record { entry = i; field = field; old = old; new = new } ∷ [])

-- of entry i, which was e and is f: offset, length, direction
unfoldable pub entry_changes : ℕ → Entry → Entry → List Change
entry_changes i e f =
    changed i 1 e.offset f.offset ++ (changed i 2 e.len f.len ++ changed i 3 e.direction f.direction)

-- four words for each change
unfoldable pub words : List Change → List ℕ
words [] = []
words (c ∷ cs) = c.entry ∷ c.field ∷ c.old ∷ c.new ∷ words cs
