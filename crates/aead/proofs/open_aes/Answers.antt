use mathlib.Core.Path.{ap, ◌∙◌}
use Rattle.std.proofs.Common.{Err}
use Rattle.aead.proofs.AeadLaws.{AesOpened, aes-opened, aes-text, aes-forged, aes-lawful}
use Rattle.aead.proofs.open_aes.Goals as goal

pub returns-in-Ok : goal.returns-in-Ok
returns-in-Ok c =
    let opened : (let a = c.args in AesOpened a.key.now a.nonce.now a.s.now a.out.now c.open.result c.open.new.out) = aes-opened _ _ _ _ c.requires.nonzero c.requires.nonce_len c.requires.tag_length_in_bounds c.requires.s_len_bound c.requires.tag_length_in_bounds_2 _ _ c.open.ensures.value c.open.ensures.out_after in
    let all = aes-text _ _ _ _ _ _ opened c.in-Ok.is in record { value = all.0; out_after = all.1 }

pub returns-in-Err-Forged : goal.returns-in-Err-Forged
returns-in-Err-Forged c =
    let opened : (let a = c.args in AesOpened a.key.now a.nonce.now a.s.now a.out.now c.open.result c.open.new.out) = aes-opened _ _ _ _ c.requires.nonzero c.requires.nonce_len c.requires.tag_length_in_bounds c.requires.s_len_bound c.requires.tag_length_in_bounds_2 _ _ c.open.ensures.value c.open.ensures.out_after in
    let all = aes-forged _ _ _ _ _ _ opened (c.in-Err-Forged.is ∙ ap Err c.in-Err-Forged.field-0-is) in record { value = all.0; out_after = all.1 }

pub returns-in-Err-Unlawful : goal.returns-in-Err-Unlawful
returns-in-Err-Unlawful c =
    let opened : (let a = c.args in AesOpened a.key.now a.nonce.now a.s.now a.out.now c.open.result c.open.new.out) = aes-opened _ _ _ _ c.requires.nonzero c.requires.nonce_len c.requires.tag_length_in_bounds c.requires.s_len_bound c.requires.tag_length_in_bounds_2 _ _ c.open.ensures.value c.open.ensures.out_after in
    absurd (aes-lawful _ _ _ _ _ _ opened (c.in-Err-Unlawful.is ∙ ap Err c.in-Err-Unlawful.field-0-is))
