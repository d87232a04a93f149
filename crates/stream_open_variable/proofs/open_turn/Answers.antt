-- Each return is one turn.
use mathlib.Core.Path.{sym, ◌∙◌, subst}
use Rattle.aead.specs.Aead.{KeyFor}
use Rattle.protocol.specs.declared.Cipher.{Cipher}
use Rattle.protocol.specs.Method.{cipher_of}
use Rattle.stream_pieces.proofs.KeyLaws.{key-of-length}
use Rattle.stream_open_variable.proofs.VariableLaws.{call-settings, call-counter, call-header, call-elsewhere, call-ended}
use Rattle.stream_open_variable.proofs.open_turn.Goals as goal

pub returns-then-length-eq0 : goal.returns-then-length-eq0
returns-then-length-eq0 c = let all = call-settings _ _ _ _ c.key_length-length.ensures c.if-length-eq0.true in record { value = all.0; out_after = all.1 }

pub invariant_of-key : goal.invariant_of-key
invariant_of-key c =
    let has_key : KeyFor (cipher_of c.args.stream.method) c.key_length-length.result = subst (KeyFor (cipher_of c.args.stream.method)) (sym c.key_length-length.ensures) (key-of-length _ (λ z. c.if-length-eq0.false (c.key_length-length.ensures ∙ z))) in
    record { key_for = subst (λ (x : Cipher). KeyFor x c.key_length-length.result) (sym c.cipher_of.ensures) has_key }

pub returns-else-stream-ne1 : goal.returns-else-stream-ne1
returns-else-stream-ne1 c = let all = call-header _ _ _ _ c.key_length-length.ensures c.if-length-eq0.false _ c.in-Variable.is c.if-stream-ne1.false _ c.cipher_of.ensures _ _ c.open_header.ensures.value
    c.open_header.ensures.out_after in record { value = all.0; out_after = all.1 }

pub returns-then-stream-ne1 : goal.returns-then-stream-ne1
returns-then-stream-ne1 c = let all = call-counter _ _ _ _ c.key_length-length.ensures c.if-length-eq0.false _ c.in-Variable.is c.if-stream-ne1.true in record { value = all.0; out_after = all.1 }

pub returns-in-Length : goal.returns-in-Length
returns-in-Length c = let all = call-elsewhere _ _ _ _ c.key_length-length.ensures c.if-length-eq0.false c.in-Length.is in record { value = all.0; out_after = all.1 }

pub returns-in-Ended : goal.returns-in-Ended
returns-in-Ended c = let all = call-ended _ _ _ _ c.key_length-length.ensures c.if-length-eq0.false c.in-Ended.is in record { value = all.0; out_after = all.1 }
