-- What an answered length promises: the datagram has that length, nothing behind it is written, its packet ID is not the last,
-- and whoever it is meant for reads the same fields from it. For all five methods and both sides.
-- Assumes nothing.
use Rattle.std.specs.Prelude.{Ok, Some}
use mathlib.Core.Path.{◌≡◌, sym, ap, ◌∙◌}
use mathlib.Core.Bool.{true}
use mathlib.Core.List.{List}
use Prim.Native.Nat.{ℕ, ◌+◌, ◌-◌, ◌^◌, ◌≤◌, ◌<◌}
use native.Mathlib.Nat.{zero-add}
use native.Mathlib.Omega.{arith}
use lib.ListN.{length, drop}
use Rattle.octets.specs.Buffers.{Octets, put}
use Rattle.octets.proofs.BufferLaws.{drop-put}
use Rattle.protocol.specs.Method.{cipher_of}
use Rattle.protocol.specs.Time.{time_valid}
use Rattle.socks5.specs.declared.Address.{Address}
use Rattle.socks5.specs.Address.{parse_at}
use Rattle.socks5.proofs.PlaceLaws.{One, one_found}
use Rattle.datagram_seal.specs.declared.Sender.{Sender}
use Rattle.datagram_parts.specs.Headers.{main_start, sealed_text}
use Rattle.datagram_seal.specs.Sealing.{seal_answer, datagram, seal_out}
use Rattle.datagram_read.specs.Opening.{read_answer, read_out}
use Rattle.demands.specs.Datagrams.{client_of, header_of}
use Rattle.datagram_seal.proofs.LengthLaws.{length-datagram}
use Rattle.datagram_seal.proofs.AnswerLaws.{Sealable, sealable}
use Rattle.demands.proofs.DatagramReadBack.{sealed-reads}

module _ (method : ℕ) (key nonce : List ℕ) (sender : Sender) (clock : ℕ) (address : List ℕ) (padding : ℕ) (payload out : List ℕ) (n : ℕ)
    (answered : seal_answer method (length key) (length nonce) sender address padding (length payload) (length out) ≡ Ok n)
  where
    facts : Sealable method (length key) (length nonce) sender address padding (length payload) (length out) n
    facts = sealable method (length key) (length nonce) sender address padding (length payload) (length out) n answered

    abbrev sent : List ℕ
    sent = datagram (cipher_of method) key nonce sender clock address padding payload

    abbrev text : List ℕ
    text = sealed_text (cipher_of method) sender.id sender.packet sender.side clock padding address payload

    pub answers-length : length sent ≡ n
    answers-length =
        length-datagram (cipher_of method) key nonce sender clock address padding payload facts.nonce-fits ∙ sym facts.size

    pub writes-length : drop n (seal_out (Ok n) sent out) ≡ drop n out
    writes-length =
        let e : 0 + length sent ≡ n = zero-add (length sent) ∙ answers-length in
        let fits : 0 + length sent ≤ length out = omega (arith, e, facts.space) in
        ap (λ (k : ℕ). drop k (put out 0 sent)) (sym e) ∙ drop-put out 0 sent fits ∙ ap (λ (k : ℕ). drop k out) e

    pub never-last : sender.packet ≡ 2 ^ 64 - 1 → ⊥
    never-last = facts.counter

    -- its address says one thing
    pub one-target : One address
    one-target = one_found address facts.whole

    -- opened at a clock at which its time is valid, into a buffer with room for the plaintext; a is what the address says
    pub sealed-opens : Octets key → sender.id < 2 ^ 64 → sender.packet < 2 ^ 64 → client_of sender.side < 2 ^ 64 → clock < 2 ^ 64
        → (a : Address) → parse_at address 0 ≡ Some a → (later : ℕ) → time_valid clock later ≡ true → (buffer : List ℕ)
        → length text ≤ length buffer
        → (read_answer method key sender.side later sent buffer
        ≡ Ok (header_of (main_start (cipher_of method)) sender.side sender.id sender.packet clock padding (length address) a))
        × (read_out method key sender.side later sent buffer ≡ put buffer 0 text)
    sealed-opens bytes id-fits packet-fits client-fits clock-fits a found later valid buffer room =
        sealed-reads method key bytes nonce facts.nonce-fits sender clock address padding payload buffer (omega (arith, facts.size, facts.most)) room
        later a facts.fits id-fits packet-fits client-fits clock-fits valid facts.whole found
