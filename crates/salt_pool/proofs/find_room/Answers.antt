use Rattle.std.proofs.Common.{◌≡◌, ℕ, Bool, true, false, not, rules}
use Rattle.std.proofs.lemmas.Iterator.{first_from_Range}
use Rattle.records.proofs.PlaceLaws.{finds-lowest}
use Rattle.salt_pool.specs.Pool.{capacity, kept, free_place}
use Rattle.salt_pool.proofs.find_room.Goals as goal

pub returns : goal.returns
unfolding free_place
returns c =
    let test : ℕ → Bool = λ i. not (kept c.args.pool.now c.args.clock i) in
    finds-lowest test capacity _
    (first_from_Range _ _ _ _ (λ k. test k ≡ true) (λ k. test k ≡ false) c.find.ensures.ran (λ x q h. search rules) (λ x q h. search rules))
