-- Datagrams once, by one side, and the run that breaks it at 59, with what the openers' arguments decide.
-- Assumes nothing.
use Rattle.std.specs.Prelude.{Err, Ok, Result, None, Option, Some}
use mathlib.Core.Path.{◌≡◌, refl, sym, ap, ◌∙◌}
use mathlib.Core.Bool.{true, and-eq-true_iff}
use mathlib.Core.List.{List, []}
use Prim.Native.Nat.{ℕ, ◌+◌, ◌≤◌}
use native.Mathlib.Omega.{arith}
use lib.Dec.{leb, lit<}
use lib.ListN.{length, get_or, replicate, length-replicate}
use borrow.Author.Tests.{leb-true, eqb-true}
use Rattle.octets.specs.Buffers.{Octets}
use Rattle.octets.proofs.BufferLaws.{get_or-zeros}
use Rattle.session_record.specs.declared.Peer.{Peer}
use Rattle.session_book.specs.Call.{Call, opened, Decision, early, reaches}
use Rattle.session_book.specs.Once.{StampedAs, Stamped}
use Rattle.session_book.proofs.TableOnce.{table-once, breaks-at-59}
use Rattle.protocol.specs.declared.Cipher.{Cipher}
use Rattle.protocol.specs.Method.{method_of, key_fits, cipher_of}
use Rattle.protocol.specs.Time.{time_valid}
use Rattle.protocol.specs.Refusal.{refusal_number}
use Rattle.socks5.proofs.PlaceLaws.{One}
use Rattle.socks5.specs.Address.{name_at, parse_at, is_address}
use Rattle.datagram_parts.specs.declared.Side.TheVariants.{Client}
use Rattle.datagram_parts.specs.Headers.{type_of, main_start, sealed_text}
use Rattle.datagram_parts.proofs.LengthLaws.{length-sealed_text}
use Rattle.datagram_parts.proofs.OverheadLaws.{start-most}
use Rattle.datagram_seal.proofs.AnswerLaws.{sealable}
use Rattle.datagram_seal.specs.declared.Sender.{Sender}
use Rattle.datagram_seal.specs.Sealing.{nonce_fits, client_sender, sealed_length, capped, length_answer, argument_answer, seal_answer}
use Rattle.datagram_read.specs.declared.Header.{Header}
use Rattle.datagram_read.specs.Opening.{plain_of, session_of, packet_of, time_of, read_answer, read_out}
use Rattle.datagram_read.proofs.ReadLaws.{answer-tells, header-session, header-packet}
use Rattle.datagram_open.specs.Deciding.{expected, opener_of, decided_by, decide, call_of, open_answer}
use Rattle.datagram_open.proofs.CallLaws.{expected-opener}
use Rattle.demands.specs.Datagrams.{header_of, Fitting}
use Rattle.demands.proofs.DatagramWays.{not-both, Way, unlawful, early as decided-early, late, taken, way}
use Rattle.demands.proofs.DatagramReadBack.{sent_back}
use Rattle.demands.proofs.DatagramSealing.{one-target, sealed-opens}
use Rattle.replay_protection.specs.Datagrams.{DatagramsOnce, OneSideOnly, Twice, text, sent, first, again, SealedBreaks, SealedBreaksAt59, sample_address, Sample, SampleBreaks}
use Rattle.protocol.specs.declared.Refusal.{Refusal}

-- ---- what a datagram that reaches the window has of its bytes

abbrev reached : Decision Header → ℕ
reached (early n out) = 0
reached (reaches id p h plain) = 1

abbrev id_in : Decision Header → ℕ
id_in (early n out) = 0
id_in (reaches id p h plain) = id

abbrev packet_in : Decision Header → ℕ
packet_in (early n out) = 0
packet_in (reaches id p h plain) = p

module _ (method : ℕ) (key : List ℕ) where
  abbrev cipher : Cipher
  cipher = cipher_of method

  abbrev stamp_of : List ℕ → ℕ
  stamp_of s = time_of (main_start cipher) (plain_of cipher key s)

  by_answer : (c : Call) (a : Result Header Refusal) → read_answer method key (expected c.client) c.clock c.datagram c.output ≡ a
      → (o : List ℕ) (id p : ℕ) (header : Header) (plain : List ℕ) → decided_by a o (plain_of cipher key c.datagram) ≡ reaches id p header plain
      → StampedAs (session_of cipher key) (packet_of cipher key) stamp_of c id p
  unfolding time_valid
  by_answer c (Ok h) ea o id p header plain e =
      let s = c.datagram in
      let d = answer-tells method key (expected c.client) c.clock s c.output h ea in
      let valid = (and-eq-true_iff (leb (stamp_of s) (c.clock + 30)) _).0 d.main.timely in
      record {
        its-id = sym (ap id_in e) ∙ header-session method key (expected c.client) c.clock s c.output h d;
        its-packet = sym (ap packet_in e) ∙ header-packet method key (expected c.client) c.clock s c.output h d;
        not-ahead = leb-true (stamp_of s) (c.clock + 30) valid.0;
        not_behind = leb-true c.clock (stamp_of s + 30) valid.1;
      }
  by_answer c (Err r) ea o id p header plain e = absurd (let z : ◌≡◌ {A = ℕ} 0 1 = ap reached e in omega arith)

  stamped : Stamped (decide method key)
  unfolding decide
  stamped =
      record {
        id_of = session_of cipher key;
        packet_of = packet_of cipher key;
        stamp_of = stamp_of;
        reaching = λ c id p header plain e. by_answer c _ refl _ id p header plain e;
      }

pub datagrams-once : DatagramsOnce
datagrams-once method key R lo hi cs ports forward = table-once (decide method key) (stamped method key) R (omega arith) hi cs ports forward

-- ---- by one side

-- the type byte of a datagram, by the method
abbrev type_in : ℕ → (key s : List ℕ) → ℕ
type_in method key s = get_or (plain_of (cipher_of method) key s) (main_start (cipher_of method)) 0

-- an accepted datagram has that of the side that is expected
type-of : (method : ℕ) (key : List ℕ) (client : Option ℕ) (clock : ℕ) (peer : Peer) (s t out : List ℕ) (h : Header)
    → open_answer method key client clock peer s t out ≡ opened h → type_in method key s ≡ type_of (expected client)
type-of method key client clock peer s t out h e = go (way method key client clock peer s t out)
  where
    go : Way method key client clock peer s t out → type_in method key s ≡ type_of (expected client)
    go (unlawful l ea eb et) = absurd (not-both 1 h _ ea e)
    go (decided-early l r er ea eb et) = absurd (not-both (refusal_number r) h _ ea e)
    go (late l g d x r o ea eb et) = absurd (not-both (refusal_number r) h _ ea e)
    go (taken l g d x ea eb) = eqb-true (type_in method key s) (type_of (expected client)) d.main.kind

pub one-side-only : OneSideOnly
one-side-only method key s clock peer t out h e client later from table buffer g f =
    let z : ◌≡◌ {A = ℕ} 0 1 =
    sym (type-of method key None clock peer s t out h e) ∙ type-of method key (Some client) later from s table buffer g f in
    omega arith

-- ---- at 59

module _ (method : ℕ) (key nonce : List ℕ) (sender : Sender) (address : List ℕ) (padding : ℕ) (payload : List ℕ) (space n : ℕ)
    (answered : seal_answer method (length key) (length nonce) sender address padding (length payload) space ≡ Ok n) (fit : Fitting key sender 1030) where
  abbrev plain : List ℕ
  plain = text method key nonce sender address padding payload

  abbrev bytes : List ℕ
  bytes = sent method key nonce sender address padding payload

  abbrev buffer : List ℕ
  buffer = replicate space 0

  there : seal_answer method (length key) (length nonce) sender address padding (length payload) (length buffer) ≡ Ok n
  there =
      ap (seal_answer method (length key) (length nonce) sender address padding (length payload)) (length-replicate {A = ℕ} space 0) ∙ answered

  one : One address
  one = one-target method key nonce sender 1030 address padding payload buffer n there

  abbrev header : Header
  header = header_of (main_start (cipher_of method)) sender.side sender.id sender.packet 1030 padding (length address) one.address

  nonce-fits : nonce_fits (cipher_of method) (length nonce) ≡ true
  nonce-fits = (sealable method (length key) (length nonce) sender address padding (length payload) space n answered).nonce-fits

  plain-sent : plain_of (cipher_of method) key bytes ≡ plain
  unfolding sealed_text
  plain-sent =
      (sent_back method key fit.key-bytes nonce nonce-fits sender 1030 address padding payload fit.id-fits fit.packet-fits).text

  -- it reaches the window at every clock at which its time is valid
  reaches-window : (clock : ℕ) → time_valid 1030 clock ≡ true → (peer : Peer) (out : List ℕ) → length plain ≤ length out
      → decide method key (call_of clock peer bytes out (opener_of sender.side)) ≡ reaches sender.id sender.packet header plain
  unfolding decide
  reaches-window clock valid peer out room =
      let read =
      sealed-opens method key nonce sender 1030 address padding payload buffer n there fit.key-bytes fit.id-fits fit.packet-fits
      fit.client-fits fit.time-fits one.address one.found clock valid out room in
      (λ i. decided_by (read_answer method key (expected-opener sender.side i) clock bytes out)
      (read_out method key (expected-opener sender.side i) clock bytes out) (plain-sent i))
      ∙ ap (λ (a : Result Header Refusal). decided_by a (read_out method key sender.side clock bytes out) plain) read.0

  at-1000 : time_valid 1030 1000 ≡ true
  unfolding time_valid
  at-1000 = refl

  at-1060 : time_valid 1030 1060 ≡ true
  unfolding time_valid
  at-1060 = refl

  sealed-breaks : (o : Twice plain) → SealedBreaks method key nonce sender address padding payload o
  sealed-breaks o =
      record {
        target = one.address;
        target-sealed = one.found;
        breaks = breaks-at-59 (decide method key) (first method key nonce sender address padding payload o)
            (again method key nonce sender address padding payload o)
            sender.id sender.packet header plain refl refl refl
            (reaches-window 1000 at-1000 o.peer o.out o.room)
            (reaches-window 1060 at-1060 o.peer-again o.out-again o.room-again)
            o.port-fits o.port-fits-again;
      }

pub sealed-breaks-at-59 : SealedBreaksAt59
sealed-breaks-at-59 method key nonce sender address padding payload space n answered fit o =
    sealed-breaks method key nonce sender address padding payload space n answered fit o

-- two of them

abbrev nobody : Peer
nobody = record { first = 0; second = 0; port = 0 }

sealed-1 : seal_answer 1 16 0 (client_sender 7) sample_address 0 0 48 ≡ Ok 48
unfolding seal_answer argument_answer length_answer capped sealed_length is_address parse_at name_at key_fits cipher_of method_of
sealed-1 = refl

sealed-3 : seal_answer 3 32 24 (client_sender 7) sample_address 0 0 72 ≡ Ok 72
unfolding seal_answer argument_answer length_answer capped sealed_length is_address parse_at name_at key_fits cipher_of method_of
sealed-3 = refl

module _ (method k : ℕ) (nonce : List ℕ) (n : ℕ) (answered : seal_answer method (length {A = ℕ} (replicate k 0)) (length nonce) (client_sender 7) sample_address 0 0 n ≡ Ok n) where
  abbrev key : List ℕ
  key = replicate k 0

  room_for : length (text method key nonce (client_sender 7) sample_address 0 []) ≤ 32
  room_for =
      omega (arith, start-most (cipher_of method), length-sealed_text (cipher_of method) 7 0 Client 1030 0 sample_address [])

  sample : Sample method key nonce
  sample =
      record {
        calls = calls;
        breaks = sealed-breaks-at-59 method key nonce (client_sender 7) sample_address 0 [] n n answered fit calls;
      }
    where
      calls : Twice (text method key nonce (client_sender 7) sample_address 0 [])
      calls =
          record {
            peer = nobody;
            out = replicate 32 0;
            peer-again = nobody;
            out-again = replicate 32 0;
            port-fits = lit< tt;
            port-fits-again = lit< tt;
            room = room_for;
            room-again = room_for;
          }

      key-bytes : Octets key
      key-bytes = record { octet = λ i. let z : get_or key i 0 ≡ 0 = get_or-zeros k i in omega arith }

      fit : Fitting key (client_sender 7) 1030
      fit = record { key-bytes = key-bytes; id-fits = lit< tt; packet-fits = lit< tt; client-fits = lit< tt; time-fits = lit< tt }

pub sample-breaks : SampleBreaks
sample-breaks = record { aes-128 = sample 1 16 [] 48 sealed-1; chacha20 = sample 3 32 (replicate 24 0) 72 sealed-3 }
