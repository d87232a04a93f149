use Rattle.std.proofs.Common.{◌≡◌, ℕ, Bool, true, false, ◌&&◌, rules}
use Rattle.std.proofs.lemmas.Iterator.{first_from_Range}
use Rattle.records.proofs.PlaceLaws.{finds-lowest}
use Rattle.salt_pool.specs.Pool.{capacity, kept, same_salt, salt_place}
use Rattle.salt_pool.proofs.find.Goals as goal

pub returns : goal.returns
unfolding salt_place
returns c =
    let test : ℕ → Bool = λ i. kept c.args.pool.now c.args.clock i && same_salt c.args.w c.args.n c.args.pool.now i in
    finds-lowest test capacity _
    (first_from_Range _ _ _ _ (λ k. test k ≡ true) (λ k. test k ≡ false) c.find.ensures.ran (λ x q h. search rules) (λ x q h. search rules))
