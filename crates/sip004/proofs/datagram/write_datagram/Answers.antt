use mathlib.Core.Path.{◌≡◌, sym}
use Prim.Native.Nat.{◌-◌}
use native.Mathlib.Omega.{arith}
use lib.Dec.{lit≤}
use lib.ListN.{length, take, drop, replicate, length-drop}
use lib.Seq.{length-take-le}
use Rattle.aes.proofs.KeyedLaws.{key-most}
use Rattle.sip004.proofs.SubkeyLaws.{subkey-front}
use Rattle.sip004.proofs.DatagramLaws.{written}
use Rattle.sip004.proofs.datagram.write_datagram.Goals as goal

pub derive_subkey-requires : goal.derive_subkey-requires
derive_subkey-requires c = record { key_len_bound = key-most _ c.requires.nonzero; max_key_in_bounds = lit≤ tt }

pub copy-requires : goal.copy-requires
copy-requires c =
    omega (arith, c.requires.n_value, c.requires.n_in_bounds)

pub slice_bounds-subkey-end : goal.slice_bounds-subkey-end
slice_bounds-subkey-end c =
    omega (arith, key-most _ c.requires.nonzero, c.derive_subkey.auto)

pub slice_bounds-seal-end : goal.slice_bounds-seal-end
slice_bounds-seal-end c = sym (length-take-le _ _ (omega (arith, key-most _ c.requires.nonzero, c.derive_subkey.auto)))

pub slice_bounds-seal-count : goal.slice_bounds-seal-count
slice_bounds-seal-count c =
    omega (arith, c.requires.salt_len, c.requires.n_value)

pub slice_bounds-seal-start : goal.slice_bounds-seal-start
slice_bounds-seal-start c = (omega (arith, c.requires.salt_len, c.requires.n_value))

pub returns : goal.returns
returns c =
    let body-part : (let a = c.args in length (take (a.n - length a.key.now) (drop (length a.key.now) c.copy.new.out)) ≡ a.n - length a.key.now) = let at = length c.args.key.now in length-take-le _ (drop at c.copy.new.out) (omega (arith, length-drop at c.copy.new.out, c.copy.auto.out, c.requires.n_in_bounds)) in
    let a = c.args in
    written a.key.now a.salt.now c.requires.nonzero a.payload.now a.out.now _ _ _ _ _ c.requires.salt_len c.requires.n_value c.requires.n_le_max_datagram c.requires.n_in_bounds
    (subkey-front a.key.now a.salt.now (replicate 32 0) _ (key-most _ c.requires.nonzero) c.derive_subkey.ensures) c.copy.ensures body-part
    c.seal.ensures.out_after
