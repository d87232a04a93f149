use Rattle.std.proofs.Common.{rules}
use Rattle.std.specs.Prelude.{◌≡◌, Err, None, Some}
use Rattle.std.specs.Result.{result_ok}
use mathlib.Core.Path.{ap, ◌∙◌}
use Rattle.protocol.specs.declared.Refusal.TheVariants.{NotAuthentic}
use Rattle.datagram_read.proofs.OpeningLaws.{read-forged, read_opened}
use Rattle.datagram_read.proofs.read_text.Goals as goal

pub returns-in_err-ids : goal.returns-in_err-ids
returns-in_err-ids c =
    let a = c.args in
    let key = c.args.key.now in
    let none : c.open_text.result ≡ None = c.ok_or.ensures.ok_part ∙ ap result_ok c.in_err-ids.was in
    let refused : c.from_residual.result ≡ Err NotAuthentic = search rules in
    let all = read-forged key.cipher a.side a.clock key.bytes.now a.s.now a.out.now _ _ c.open_text.ensures.value
    c.open_text.ensures.out_after none in
    record { value = refused ∙ all.0; out_after = all.1 }

pub returns : goal.returns
returns c =
    let some : c.open_text.result ≡ Some c.in_ok-ids.ids = c.ok_or.ensures.ok_part ∙ ap result_ok c.in_ok-ids.was in
    let all = read_opened _ _ _ _ _ _ _ _ c.open_text.ensures.value c.open_text.ensures.out_after c.requires.cipher_in_bounds_2 _ some _ _
    c.overhead.ensures c.main_start.ensures _ _ c.read_main-answer.ensures c.clear_refused.ensures in
    record { value = all.0; out_after = all.1 }
