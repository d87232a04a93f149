use Rattle.sip004.proofs.SubkeyLaws.{derived}
use Rattle.sip004.proofs.derive_subkey.Goals as goal

pub returns : goal.returns
returns c =
    derived _ _ _ _ _ c.requires.key_len_bound c.requires.max_key_in_bounds c.hkdf.ensures.value c.hkdf.ensures.out_after
