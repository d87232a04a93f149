use mathlib.Core.Path.{ap, ◌∙◌}
use Prim.Native.Nat.{ℕ}
use Rattle.octets.specs.Numbers.{to_be}
use Rattle.ghash.proofs.DoubledLaws.{key_in_lem, table-for-key}
use Rattle.ctr.specs.Gctr.{gctr, ciph_at, counter_block}
use Rattle.ctr.specs.Words.{nonce_bytes}
use Rattle.gcm.specs.Gcm as spec
use Rattle.gcm.proofs.tag_of.Goals as goal

pub hashed-requires : goal.hashed-requires
hashed-requires c = record { c_len_bound = c.requires.c_len_bound; table_for = table-for-key _ _ c.requires.table_for }

pub returns : goal.returns
unfolding spec.tag spec.j0
returns c =
    let a = c.args in
    c.gctr.ensures
    ∙ ap (gctr (ciph_at a.aes.now.rounds a.aes.now.w.now) (counter_block (nonce_bytes a.n) 1))
    (c.element_bytes-tag.ensures
    ∙ ap (to_be 16) (c.hashed.ensures ∙ ap (λ (h : ℕ). spec.hashed h a.c.now) (key_in_lem _ _ c.requires.table_for)))
