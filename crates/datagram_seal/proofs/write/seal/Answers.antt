use mathlib.Core.Path.{◌≡◌, sym, ap, ◌∙◌}
use mathlib.Core.List.{List}
use Prim.Native.Nat.{ℕ}
use native.Mathlib.Omega.{arith}
use borrow.Author.Rules.{rules}
use lib.ListN.{length, take}
use lib.Seq.{length-take-le}
use Rattle.protocol.specs.declared.Cipher.{Cipher}
use Rattle.protocol.specs.Method.{cipher_of}
use Rattle.datagram_seal.specs.Sealing.{nonce_fits, sealed_length, datagram}
use Rattle.datagram_seal.proofs.AnswerLaws.{granted, padding-most, next-fits}
use Rattle.datagram_seal.proofs.LengthLaws.{length-datagram}
use Rattle.datagram_seal.proofs.WritingLaws.{front-law}
use Rattle.datagram_seal.proofs.write.seal.Goals as goal

pub overflow_cast-message : goal.overflow_cast-message
overflow_cast-message c =
    let f = granted c.seal_answer-answer.ensures c.in-Ok.is in
    record { fits = padding-most _ _ _ _ _ _ f.size f.most }

pub slice_bounds-write_datagram-end : goal.slice_bounds-write_datagram-end
slice_bounds-write_datagram-end c =
    let f = granted c.seal_answer-answer.ensures c.in-Ok.is in
    f.space

pub slice_bounds-write_datagram-end-2 : goal.slice_bounds-write_datagram-end-2
slice_bounds-write_datagram-end-2 c =
    let f = granted c.seal_answer-answer.ensures c.in-Ok.is in
    sym (length-take-le _ _ f.space)

pub invariant_of-key : goal.invariant_of-key
invariant_of-key c =
    let f = granted c.seal_answer-answer.ensures c.in-Ok.is in
    record { usable = f.key }

pub write_datagram-requires-clause-nonce_value : goal.write_datagram-requires-clause-nonce_value
write_datagram-requires-clause-nonce_value c =
    let a = c.args in
    let f = granted c.seal_answer-answer.ensures c.in-Ok.is in
    ap (λ (cipher : Cipher). nonce_fits cipher (length a.nonce.now)) c.cipher_of.ensures ∙ f.nonce-fits

pub write_datagram-requires-clause-s_len : goal.write_datagram-requires-clause-s_len
write_datagram-requires-clause-s_len c =
    let a = c.args in
    let f = granted c.seal_answer-answer.ensures c.in-Ok.is in
    length-take-le _ _ f.space ∙ f.size
    ∙ ap (λ (cipher : Cipher). sealed_length cipher a.sender.side (length a.address.now) a.padding (length a.payload.now)) (sym c.cipher_of.ensures)

pub write_datagram-requires-clause-s_len_bound : goal.write_datagram-requires-clause-s_len_bound
write_datagram-requires-clause-s_len_bound c =
    let a = c.args in
    let f = granted c.seal_answer-answer.ensures c.in-Ok.is in
    let n : length (take c.in-Ok.n a.out.now) ≡ c.in-Ok.n = length-take-le _ _ f.space in
    omega (arith, n, f.most)

pub overflow_add-result : goal.overflow_add-result
overflow_add-result c =
    let f = granted c.seal_answer-answer.ensures c.in-Ok.is in
    record { fits = next-fits _ (search rules) f.counter }

pub returns-clause-out_after : goal.returns-clause-out_after
unfolding datagram
returns-clause-out_after c =
    let a = c.args in
    let f = granted c.seal_answer-answer.ensures c.in-Ok.is in
    let d : Cipher → List ℕ = λ cipher. datagram cipher a.key.now a.nonce.now a.sender a.clock a.address.now a.padding a.payload.now in
    let l = length-datagram (cipher_of a.method) a.key.now a.nonce.now a.sender a.clock a.address.now a.padding a.payload.now f.nonce-fits in
    front-law a.out.now (d (cipher_of a.method)) _ _ (l ∙ sym f.size) (c.write_datagram.ensures ∙ ap d c.cipher_of.ensures)
