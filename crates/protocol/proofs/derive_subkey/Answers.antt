use mathlib.Core.Path.{◌≡◌, ap, ◌∙◌}
use mathlib.Core.List.{List}
use Prim.Native.Nat.{ℕ}
use native.Mathlib.Omega.{arith}
use borrow.Author.Rules.{rules}
use lib.ListN.{length, take, length-take}
use Rattle.octets.specs.Buffers.{put}
use Rattle.blake3.specs.Tree.{derive_key}
use Rattle.blake3.specs.Derivation.{subkey_context}
use Rattle.protocol.specs.Subkey.{subkey}
use Rattle.protocol.proofs.SubkeyLaws.{material-law}
use Rattle.protocol.proofs.derive_subkey.Goals as goal

pub slice_bounds-derive_subkey-end : goal.slice_bounds-derive_subkey-end
slice_bounds-derive_subkey-end c =
    simp length-take (omega (arith, c.copy-2.auto.out, c.copy.auto.out, c.requires.key_len_bound, c.requires.salt_len_bound))

pub derive_subkey-bytes-requires : goal.derive_subkey-bytes-requires
derive_subkey-bytes-requires c =
    simp length-take (omega (arith, c.copy-2.auto.out, c.copy.auto.out))

pub slice_bounds-copy-end-3 : goal.slice_bounds-copy-end-3
slice_bounds-copy-end-3 c =
    let l : length c.derive_subkey-bytes.result ≡ 64 = search rules in
    simp length-take (omega (arith, l, c.requires.key_len_bound))

pub copy-requires-3 : goal.copy-requires-3
copy-requires-3 c =
    simp length-take (omega (arith, c.requires.key_len_bound, c.requires.max_key_in_bounds))

pub returns : goal.returns
unfolding subkey
returns c =
    let a = c.args in
    let n = length a.key.now in
    c.copy-3.ensures
    ∙ ap (λ (m : List ℕ). put a.out.now 0 (take n m))
    (c.derive_subkey-bytes.ensures
    ∙ ap (derive_key subkey_context) (material-law _ a.key.now a.salt.now _ _ (omega (arith, c.requires.key_len_bound, c.requires.salt_len_bound)) c.copy.ensures c.copy-2.ensures))
