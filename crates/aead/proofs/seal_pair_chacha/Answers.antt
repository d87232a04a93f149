use mathlib.Core.Path.{◌≡◌, sym, ap, ◌∙◌}
use native.Mathlib.Omega.{arith}
use lib.ListN.{length, take, length-drop}
use lib.Seq.{length-take-le}
use Rattle.aead.proofs.AeadLaws.{chacha-pair, parted}
use Rattle.aead.proofs.seal_pair_chacha.Goals as goal

pub slice_bounds-seal_in_place-end-2 : goal.slice_bounds-seal_in_place-end-2
slice_bounds-seal_in_place-end-2 c =
    let first_part : (let a = c.args in length (take a.at a.body.now) ≡ a.at) = length-take-le c.args.at c.args.body.now (omega (arith, c.requires.tag_length_in_bounds)) in
    sym (first_part)

pub seal_in_place-requires : goal.seal_in_place-requires
seal_in_place-requires c =
    let first_part : (let a = c.args in length (take a.at a.body.now) ≡ a.at) = length-take-le c.args.at c.args.body.now (omega (arith, c.requires.tag_length_in_bounds)) in
    omega (arith, first_part, c.requires.tag_length_le_at)

pub seal_in_place-requires-2 : goal.seal_in_place-requires-2
seal_in_place-requires-2 c =
    let first_part : (let a = c.args in length (take a.at a.body.now) ≡ a.at) = length-take-le c.args.at c.args.body.now (omega (arith, c.requires.tag_length_in_bounds)) in
    let first-sealed : length c.seal_in_place.new.body ≡ c.args.at = c.seal_in_place.auto.body ∙ first_part in
    let a = c.args in
    omega (
      arith,
      ap length (parted c.seal_in_place.new.body a.body.now a.at (first-sealed)).1.0,
      length-drop a.at a.body.now,
      c.requires.tag_length_in_bounds,
    )

pub returns : goal.returns
returns c =
    let first_part : (let a = c.args in length (take a.at a.body.now) ≡ a.at) = length-take-le c.args.at c.args.body.now (omega (arith, c.requires.tag_length_in_bounds)) in
    let first-sealed : length c.seal_in_place.new.body ≡ c.args.at = c.seal_in_place.auto.body ∙ first_part in
    let a = c.args in
    chacha-pair a.n a.key.now a.body.now a.first.now a.second.now _ _ a.at c.seal_in_place.ensures (first-sealed)
    c.seal_in_place-2.ensures
