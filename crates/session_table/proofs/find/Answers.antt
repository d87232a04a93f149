use Rattle.std.proofs.Common.{◌≡◌, ℕ, Bool, true, false, rules}
use Rattle.std.proofs.lemmas.Iterator.{first_from_Range}
use Rattle.records.proofs.PlaceLaws.{finds-lowest}
use Rattle.session_table.specs.Sizes.{capacity}
use Rattle.session_table.specs.Table.{retention, record_at, holds, session_place}
use Rattle.session_table.proofs.find.Goals as goal

pub returns : goal.returns
unfolding session_place
returns c =
    let t = c.args.table.now in
    let test : ℕ → Bool = λ i. holds (retention t) c.args.clock c.args.id (record_at t i) in
    finds-lowest test capacity _
    (first_from_Range _ _ _ _ (λ k. test k ≡ true) (λ k. test k ≡ false) c.find.ensures.ran (λ x q h. search rules) (λ x q h. search rules))
