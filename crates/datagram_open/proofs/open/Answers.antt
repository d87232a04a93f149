use Rattle.std.proofs.Common.{rules}
use mathlib.Core.Path.{◌≡◌, sym, ap, ◌∙◌}
use native.Mathlib.Omega.{arith}
use Rattle.protocol.specs.Method.{cipher_of}
use Rattle.datagram_parts.specs.Parts.{overhead}
use Rattle.datagram_open.specs.Deciding.{answer_of}
use Rattle.datagram_read.proofs.ReadLaws.{answer-tells, opens-long, opens-room}
use Rattle.session_table.proofs.TableLaws.{table-length}
use Rattle.datagram_open.proofs.CallLaws.{unlawful-call, refused-call, entered-call}
use Rattle.datagram_open.proofs.open.Goals as goal

pub returns-then-not-is_lawful : goal.returns-then-not-is_lawful
returns-then-not-is_lawful c =
    let a = c.args in
    let all = unlawful-call a.method a.key.now a.side a.clock a.peer a.s.now a.table.now a.out.now (sym c.is_lawful.ensures ∙ c.if-not-is_lawful.true) in
    record { result_value = all.0; out_after = all.1.0; table_after = all.1.1 }

pub returns-in_err-header : goal.returns-in_err-header
returns-in_err-header c =
    let a = c.args in
    let lawful = sym c.is_lawful.ensures ∙ c.if-not-is_lawful.false in
    let same : c.from_residual.result ≡ c.read_datagram.result = search rules in
    let all = refused-call a.method a.key.now a.side a.clock a.peer a.s.now a.table.now a.out.now lawful _ c.read_datagram.ensures.out_after _
    c.read_datagram.ensures.value _ c.in_err-header.was in
    record { result_value = ap answer_of same ∙ all.0; out_after = all.1.0; table_after = all.1.1 }

pub overflow_sub-due : goal.overflow_sub-due
overflow_sub-due c =
    let over : c.overhead.result ≡ overhead (cipher_of c.args.method) = c.overhead.ensures ∙ ap overhead c.cipher_of.ensures in
    let opens = answer-tells _ _ _ _ _ _ _ (sym c.read_datagram.ensures.value ∙ c.in_ok-header.was) in
    omega (arith, over, opens-long _ _ _ _ _ _ _ opens)

pub take_to_session-requires : goal.take_to_session-requires
take_to_session-requires c =
    let over : c.overhead.result ≡ overhead (cipher_of c.args.method) = c.overhead.ensures ∙ ap overhead c.cipher_of.ensures in
    let opens = answer-tells _ _ _ _ _ _ _ (sym c.read_datagram.ensures.value ∙ c.in_ok-header.was) in
    record {
      table_len = table-length c.args.table.now (sym c.is_lawful.ensures ∙ c.if-not-is_lawful.false);
      due_in_bounds = omega (arith, over, opens-room _ _ _ _ _ _ _ opens, c.read_datagram.auto.out);
    }

pub returns : goal.returns
returns c =
    let a = c.args in
    let lawful = sym c.is_lawful.ensures ∙ c.if-not-is_lawful.false in
    let over : c.overhead.result ≡ overhead (cipher_of c.args.method) = c.overhead.ensures ∙ ap overhead c.cipher_of.ensures in
    let m =
    entered-call a.method a.key.now a.side a.clock a.peer a.s.now a.table.now a.out.now lawful _ c.read_datagram.ensures.out_after c.in_ok-header.header
    (sym c.read_datagram.ensures.value ∙ c.in_ok-header.was) _ over _ _ c.take_to_session.ensures.out_after c.take_to_session.ensures.table_after in
    record { result_value = ap answer_of c.take_to_session.ensures.value ∙ m.0; out_after = m.1.0; table_after = m.1.1 }
