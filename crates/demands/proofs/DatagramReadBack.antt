-- What a datagram was sealed from is read back from it: session ID and packet ID, the text, each field of the main header, and
-- the whole. For all five methods.
-- Assumes nothing.
use Rattle.std.specs.Prelude.{Err, Ok, Some}
use mathlib.Core.Path.{◌≡◌, refl, sym, ap, ap₂, ◌∙◌}
use mathlib.Core.Bool.{true, cond, ◌&&◌}
use mathlib.Core.List.{List, [], ◌∷◌, ◌++◌, append_assoc, append-nil}
use Prim.Native.Nat.{ℕ, ◌+◌, ◌-◌, ◌^◌, ◌≤◌, ◌<◌}
use native.Mathlib.Nat.{add-zero}
use native.Mathlib.Omega.{arith}
use lib.Dec.{eqb, leb}
use lib.ListN.{length, get_or, drop, replicate, length-append, length-replicate}
use lib.Seq.{get_or-drop, take_at, drop_at, drop-drop, drop-append_seam}
use borrow.Author.Tests.{eq-eqb, eqb-true, le-leb}
use Rattle.octets.specs.Buffers.{Octets, put}
use Rattle.octets.specs.Numbers.{be, to_be}
use Rattle.octets.proofs.BufferLaws.{octets-append}
use Rattle.octets.proofs.NumberLaws.{length-to_be, octets-to_be, be-front}
use Rattle.aes.specs.Cipher.{IsBlock}
use Rattle.aes.specs.Keyed.{nk_of}
use Rattle.aes_inverse.specs.InvCipher.{inv_aes}
use Rattle.aes_inverse.proofs.Inverse.{inv-aes-undoes}
use Rattle.gcm.specs.Gcm.{seal}
use Rattle.gcm.specs.Keyed.{ciph_of}
use Rattle.gcm.proofs.GcmLaws.{seal-authentic, open-seal, authentic-exactly}
use Rattle.chacha_poly.specs.Extended.{extended_seal, extended_authentic, extended_opened}
use Rattle.chacha_poly.proofs.ExtendedLaws.{extended-authentic, extended-back}
use Rattle.protocol.specs.declared.Cipher.{Cipher}
use Rattle.protocol.specs.declared.Cipher.TheVariants.{AesGcm, ChaChaPoly}
use Rattle.protocol.specs.Method.{key_fits, cipher_of}
use Rattle.protocol.specs.declared.Refusal.TheVariants.{Settings, Length, Room, NotAuthentic, Malformed, WrongType, WrongTime, Binding}
use Rattle.protocol.specs.Subkey.{session_subkey}
use Rattle.protocol.specs.Time.{time_valid}
use Rattle.socks5.specs.declared.Address.{Address}
use Rattle.socks5.specs.Address.{parse_at, is_address, moved}
use Rattle.socks5.proofs.PlaceLaws.{found-anywhere}
use Rattle.datagram_parts.specs.declared.Side.{Side}
use Rattle.datagram_parts.specs.declared.Side.TheVariants.{Client, Server}
use Rattle.datagram_seal.specs.declared.Sender.{Sender}
use Rattle.datagram_parts.specs.Headers.{separate_header, nonce, type_of, client_field, fixed_part, fixed_length, plaintext, inner_ids, main_start, sealed_text}
use Rattle.datagram_parts.specs.Parts.{overhead, max_datagram, nonce_length, nonce_fits, separate_block, seal_body, datagram_by}
use Rattle.datagram_seal.specs.Sealing.{sealed_length, datagram}
use Rattle.datagram_read.specs.declared.Header.{Header}
use Rattle.datagram_read.specs.Opening.{separate_of, body_authentic, body_text, datagram_authentic, plain_of, session_of, packet_of, time_of, padding_of, meant, header_with, read_address, read_main, length_lawful, main_of, read_text, read_answer, settled, text_out, read_out}
use Rattle.demands.specs.Datagrams.{client_of, header_of}
use Rattle.datagram_parts.proofs.LengthLaws.{length-separate_header, length-separate_block, length-client_field, length-fixed_part, length-plaintext, length-inner_ids, length-sealed_text}
use Rattle.datagram_seal.proofs.LengthLaws.{length-datagram}

-- ---- session ID and packet ID, at the front of a string

module _ (id packet : ℕ) (rest : List ℕ) where
  session-front : id < 2 ^ 64 → be 8 (separate_header id packet ++ rest) ≡ id
  unfolding separate_header
  session-front h = ap (be 8) (append_assoc (to_be 8 id) (to_be 8 packet) rest) ∙ be-front 8 id (to_be 8 packet ++ rest) h

  packet-front : packet < 2 ^ 64 → be 8 (drop 8 (separate_header id packet ++ rest)) ≡ packet
  unfolding separate_header
  packet-front h =
      ap (λ (s : List ℕ). be 8 (drop 8 s)) (append_assoc (to_be 8 id) (to_be 8 packet) rest)
      ∙ ap (be 8) (drop_at (to_be 8 id) (to_be 8 packet ++ rest) 8 (length-to_be 8 id))
      ∙ be-front 8 packet rest h

-- ---- with AES: the separate header and the body

separate-back : (key : List ℕ) → Octets key → (id packet : ℕ) (rest : List ℕ)
    → separate_of key (separate_block key id packet ++ rest) ≡ separate_header id packet
unfolding separate_of separate_block separate_header
separate-back key p id packet rest =
    ap (inv_aes (nk_of (length key)) key) (take_at (separate_block key id packet) rest 16 (length-separate_block key id packet))
    ∙ inv-aes-undoes (nk_of (length key)) key (separate_header id packet) p block
  where
    block : IsBlock (separate_header id packet)
    block =
        record {
          size = length-separate_header id packet;
          bytes = octets-append (to_be 8 id) (to_be 8 packet) (octets-to_be 8 id) (octets-to_be 8 packet);
        }

body_back : (key : List ℕ) (id packet : ℕ) (text : List ℕ)
    → (body_authentic key id packet (seal_body key id packet text) ≡ true) × (body_text key id packet (seal_body key id packet text) ≡ text)
unfolding body_authentic body_text seal_body
body_back key id packet text =
    let ciph = ciph_of (session_subkey key id) in
    let n = nonce id packet in
    let s = seal ciph n text in
    ((authentic-exactly ciph n s).1 (seal-authentic ciph n text), open-seal ciph n text)

-- ---- a datagram, by its cipher

-- what is read from one that was made of these, where the main header and what is behind it is `main`
pub record Back (cipher : Cipher) (key : List ℕ) (id packet : ℕ) (main sent : List ℕ) : Type 0 where
  pub authentic : datagram_authentic cipher key sent ≡ true
  pub text : plain_of cipher key sent ≡ inner_ids cipher id packet ++ main
  pub session : session_of cipher key sent ≡ id
  pub counter : packet_of cipher key sent ≡ packet

module _ (key : List ℕ) (p : Octets key) (nonce_bytes : List ℕ) (id packet : ℕ) (id-fits : id < 2 ^ 64) (packet-fits : packet < 2 ^ 64) (main : List ℕ) where
  pub datagram-back : (cipher : Cipher) → nonce_fits cipher (length nonce_bytes) ≡ true
      → Back cipher key id packet main (datagram_by cipher key nonce_bytes id packet (inner_ids cipher id packet ++ main))
  unfolding datagram_by session_of packet_of
  datagram-back AesGcm e =
      let body = seal_body key id packet main in
      let s = separate_block key id packet ++ body in
      let head : separate_of key s ≡ separate_header id packet ++ [] = separate-back key p id packet body ∙ sym (append-nil (separate_header id packet)) in
      let ei : be 8 (separate_of key s) ≡ id = ap (be 8) head ∙ session-front id packet [] id-fits in
      let ep : be 8 (drop 8 (separate_of key s)) ≡ packet = ap (λ (x : List ℕ). be 8 (drop 8 x)) head ∙ packet-front id packet [] packet-fits in
      let eb : drop 16 s ≡ body = drop_at (separate_block key id packet) body 16 (length-separate_block key id packet) in
      let back = body_back key id packet main in
      record {
        authentic = (λ i. body_authentic key (ei i) (ep i) (eb i)) ∙ back.0;
        text = (λ i. body_text key (ei i) (ep i) (eb i)) ∙ back.1;
        session = ei;
        counter = ep;
      }
  datagram-back (ChaChaPoly n) e =
      let text = separate_header id packet ++ main in
      let body = extended_seal n key nonce_bytes text in
      let size = eqb-true (length nonce_bytes) nonce_length e in
      let en = take_at nonce_bytes body nonce_length size in
      let eb = drop_at nonce_bytes body nonce_length size in
      let plain = (λ i. extended_opened n key (en i) (eb i)) ∙ extended-back n key nonce_bytes text in
      record {
        authentic = (λ i. extended_authentic n key (en i) (eb i)) ∙ extended-authentic n key nonce_bytes text;
        text = plain;
        session = ap (be 8) plain ∙ session-front id packet main id-fits;
        counter = ap (λ (x : List ℕ). be 8 (drop 8 x)) plain ∙ packet-front id packet main packet-fits;
      }

-- ---- the main header, behind a string that ends where it starts

module _ (front : List ℕ) (start : ℕ) (placed : length front ≡ start) (side : Side) (time padding : ℕ) (address payload : List ℕ) where
  abbrev main : List ℕ
  main = plaintext side time padding address payload

  abbrev plain : List ℕ
  plain = front ++ main

  abbrev behind : List ℕ
  behind = replicate padding 0 ++ (address ++ payload)

  from : (k : ℕ) → drop (start + k) plain ≡ drop k main
  from k = sym (drop-drop k start plain) ∙ ap (drop k) (drop_at front main start placed)

  -- what stands behind the type, behind the time and behind the client's session ID

  main-time : drop 1 main ≡ to_be 8 time ++ (client_field side ++ (to_be 2 padding ++ behind))
  unfolding plaintext fixed_part
  main-time =
      append_assoc (to_be 8 time) (client_field side ++ to_be 2 padding) behind
      ∙ ap (λ (s : List ℕ). to_be 8 time ++ s) (append_assoc (client_field side) (to_be 2 padding) behind)

  main-client : drop 9 main ≡ client_field side ++ (to_be 2 padding ++ behind)
  main-client =
      sym (drop-drop 8 1 main) ∙ ap (drop 8) main-time
      ∙ drop_at (to_be 8 time) (client_field side ++ (to_be 2 padding ++ behind)) 8 (length-to_be 8 time)

  from-client : drop (start + 9) plain ≡ client_field side ++ (to_be 2 padding ++ behind)
  from-client = from 9 ∙ main-client

  from-padding : drop (start + fixed_length side - 2) plain ≡ to_be 2 padding ++ behind
  from-padding =
      let n = length (client_field side) in
      let e : start + fixed_length side - 2 ≡ start + (9 + n) = omega (arith, length-client_field side) in
      ap (λ (k : ℕ). drop k plain) e ∙ from (9 + n)
      ∙ sym (drop-drop n 9 main) ∙ ap (drop n) main-client
      ∙ drop-append_seam (client_field side) (to_be 2 padding ++ behind)

  -- the fields

  long : leb (start + fixed_length side) (length plain) ≡ true
  long =
      le-leb (start + fixed_length side) (length plain)
      (omega (arith, length-append front main, placed, length-plaintext side time padding address payload))

  type-back : eqb (get_or plain start 0) (type_of side) ≡ true
  unfolding plaintext fixed_part
  type-back =
      eq-eqb (get_or plain start 0) (type_of side)
      (ap (λ (k : ℕ). get_or plain k 0) (sym (add-zero start)) ∙ sym (get_or-drop start plain 0 0)
      ∙ ap (λ (s : List ℕ). get_or s 0 0) (drop_at front main start placed))

  time-back : time < 2 ^ 64 → time_of start plain ≡ time
  time-back h = ap (be 8) (from 1 ∙ main-time) ∙ be-front 8 time (client_field side ++ (to_be 2 padding ++ behind)) h

  padding-back : padding < 2 ^ 16 → padding_of start side plain ≡ padding
  padding-back h = ap (be 2) from-padding ∙ be-front 2 padding behind h

  -- what stands before the address

  abbrev before : List ℕ
  before = front ++ (fixed_part side time padding ++ replicate padding 0)

  length_before : length before ≡ start + fixed_length side + padding
  length_before =
      omega (
        arith,
        placed,
        length-append front (fixed_part side time padding ++ replicate padding 0),
        length-append (fixed_part side time padding) (replicate padding 0),
        length-fixed_part side time padding,
        length-replicate {A = ℕ} padding 0,
      )

  split : plain ≡ before ++ (address ++ payload)
  unfolding plaintext
  split =
      ap (λ (s : List ℕ). front ++ s) (sym (append_assoc (fixed_part side time padding) (replicate padding 0) (address ++ payload)))
      ∙ sym (append_assoc front (fixed_part side time padding ++ replicate padding 0) (address ++ payload))

  address-back : (a : Address) → is_address address ≡ true → parse_at address 0 ≡ Some a
      → parse_at plain (start + fixed_length side + padding)
      ≡ Some
      (record {
        target = moved (start + fixed_length side + padding) a.target;
        port = a.port;
        end = start + fixed_length side + padding + length address;
      })
  address-back a one e =
      ap₂ parse_at split (sym length_before)
      ∙ found-anywhere before address payload a one e
      ∙ ap (λ (k : ℕ). Some (record { target = moved k a.target; port = a.port; end = k + length address })) length_before

  -- and behind it
  payload-back : drop (start + fixed_length side + padding + length address) plain ≡ payload
  payload-back =
      ap (drop (start + fixed_length side + padding + length address)) (split ∙ sym (append_assoc before address payload))
      ∙ drop_at (before ++ address) payload (start + fixed_length side + padding + length address)
      (length-append before address ∙ ap (λ (k : ℕ). k + length address) length_before)

module _ (front : List ℕ) (start : ℕ) (placed : length front ≡ start) where
  client-back : (side : Side) (time padding : ℕ) (address payload : List ℕ) → client_of side < 2 ^ 64
      → meant start side (front ++ plaintext side time padding address payload) ≡ true
  client-back Client time padding address payload h = refl
  client-back (Server client) time padding address payload h =
      let behind = replicate padding 0 ++ (address ++ payload) in
      eq-eqb (be 8 (drop (start + 9) (front ++ plaintext (Server client) time padding address payload))) client
      (ap (be 8) (from-client front start placed (Server client) time padding address payload) ∙ be-front 8 client (to_be 2 padding ++ behind) h)

  -- for a client ID, a time and a padding length that fit their bytes, and exactly one address
  module _ (side : Side) (time padding : ℕ) (address payload : List ℕ) (a : Address)
      (client-fits : client_of side < 2 ^ 64) (time-fits : time < 2 ^ 64) (padding-fits : padding < 2 ^ 16)
      (one : is_address address ≡ true) (found : parse_at address 0 ≡ Some a) where
    reads-back : (clock id packet : ℕ) → time_valid time clock ≡ true
        → read_main start side clock id packet (front ++ plaintext side time padding address payload)
        ≡ Ok (header_of start side id packet time padding (length address) a)
    unfolding read_main read_address
    reads-back clock id packet valid =
        let plain = front ++ plaintext side time padding address payload in
        let here = time-back front start placed side time padding address payload time-fits in
        let pad = padding-back front start placed side time padding address payload padding-fits in
        let parsed =
        ap (λ (n : ℕ). parse_at plain (start + fixed_length side + n)) pad
        ∙ address-back front start placed side time padding address payload a one found in
        let valid-there = ap (λ (t : ℕ). time_valid t clock) here ∙ valid in
        (λ i. cond (long front start placed side time padding address payload i)
        (cond (type-back front start placed side time padding address payload i)
        (cond (valid-there i)
        (cond (client-back side time padding address payload client-fits i) (read_address start side id packet plain) (Err Binding))
        (Err WrongTime)) (Err WrongType)) (Err Malformed))
        ∙ (λ i. header_with id packet (here i) (pad i) (parsed i))

-- ---- the whole

-- the plaintext ends with the payload
pub payload-sent : (cipher : Cipher) (id packet : ℕ) (side : Side) (time padding : ℕ) (address payload : List ℕ)
    → drop (main_start cipher + fixed_length side + padding + length address) (sealed_text cipher id packet side time padding address payload) ≡ payload
unfolding sealed_text
payload-sent cipher id packet side time padding address payload =
    payload-back (inner_ids cipher id packet) (main_start cipher) (length-inner_ids cipher id packet) side time padding address payload

module _ (method : ℕ) (key : List ℕ) (p : Octets key) (nonce_bytes : List ℕ) (nonce-fits : nonce_fits (cipher_of method) (length nonce_bytes) ≡ true)
    (sender : Sender) (time : ℕ) (address : List ℕ) (padding : ℕ) (payload : List ℕ) where
  abbrev cipher : Cipher
  cipher = cipher_of method

  abbrev ids : List ℕ
  ids = inner_ids cipher sender.id sender.packet

  abbrev text : List ℕ
  text = sealed_text cipher sender.id sender.packet sender.side time padding address payload

  abbrev sent : List ℕ
  sent = datagram cipher key nonce_bytes sender time address padding payload

  pub sent_back : sender.id < 2 ^ 64 → sender.packet < 2 ^ 64
      → Back cipher key sender.id sender.packet (plaintext sender.side time padding address payload) sent
  unfolding datagram sealed_text
  sent_back id-fits packet-fits =
      datagram-back key p nonce_bytes sender.id sender.packet id-fits packet-fits (plaintext sender.side time padding address payload) cipher
      nonce-fits

  module _ (out : List ℕ) (short : sealed_length cipher sender.side (length address) padding (length payload) ≤ max_datagram)
      (room : length text ≤ length out) where
    padding-fits : padding < 2 ^ 16
    unfolding sealed_length
    padding-fits = omega arith

    pub sent-length : length text + overhead cipher ≡ length sent
    unfolding sealed_length
    sent-length =
        omega (
          arith,
          length-datagram cipher key nonce_bytes sender time address padding payload nonce-fits,
          length-sealed_text cipher sender.id sender.packet sender.side time padding address payload,
        )

    length-fits : length_lawful cipher sent ≡ true
    unfolding length_lawful
    length-fits =
        let n = length-datagram cipher key nonce_bytes sender time address padding payload nonce-fits in
        let l = sent-length in
        ap₂ ◌&&◌ (le-leb (overhead cipher) (length sent) (omega arith)) (le-leb (length sent) max_datagram (omega arith))

    room_fits : leb (length sent - overhead cipher) (length out) ≡ true
    room_fits = let l = sent-length in le-leb (length sent - overhead cipher) (length out) (omega arith)

    module _ (clock : ℕ) (a : Address) (fits : key_fits method (length key) ≡ true)
        (id-fits : sender.id < 2 ^ 64) (packet-fits : sender.packet < 2 ^ 64) (client-fits : client_of sender.side < 2 ^ 64)
        (time-fits : time < 2 ^ 64) (valid : time_valid time clock ≡ true)
        (one : is_address address ≡ true) (found : parse_at address 0 ≡ Some a) where
      abbrev header : Header
      header = header_of (main_start cipher) sender.side sender.id sender.packet time padding (length address) a

      abbrev back : Back cipher key sender.id sender.packet (plaintext sender.side time padding address payload) sent
      back = sent_back id-fits packet-fits

      main-read : main_of cipher sender.side clock key sent ≡ Ok header
      main-read =
          (λ i. read_main (main_start cipher) sender.side clock (back.session i) (back.counter i) (back.text i))
          ∙ reads-back ids (main_start cipher) (length-inner_ids cipher sender.id sender.packet) sender.side time padding address payload a
          client-fits time-fits padding-fits one found clock sender.id sender.packet valid

      text-read : read_text cipher sender.side clock key sent ≡ Ok header
      unfolding read_text
      text-read = (λ i. cond (back.authentic i) (main-read i) (Err NotAuthentic))

      text-written : text_out cipher sender.side clock key sent out ≡ put out 0 text
      unfolding text_out sealed_text
      text-written = (λ i. cond (back.authentic i) (settled (main-read i) (length sent - overhead cipher) (put out 0 (back.text i))) out)

      pub sealed-reads : (read_answer method key sender.side clock sent out ≡ Ok header)
          × (read_out method key sender.side clock sent out ≡ put out 0 text)
      unfolding read_answer read_out
      sealed-reads = (
        (λ i. cond (fits i) (cond (length-fits i) (cond (room_fits i) (text-read i) (Err Room)) (Err Length)) (Err Settings)),
        (λ i. cond (fits i && (length-fits i && room_fits i)) (text-written i) out),
      )

-- ---- examples

-- session ID 01 02 .. 08 and packet 5
pub nonce-example : nonce 0x0102030405060708 5 ≡ 5 ∷ 6 ∷ 7 ∷ 8 ∷ 0 ∷ 0 ∷ 0 ∷ 0 ∷ 0 ∷ 0 ∷ 0 ∷ 5 ∷ []
unfolding nonce separate_header to_be
nonce-example = refl

-- 00, time 1,000, padding 00 00, and 03 01 61 00 50, with no payload; with ChaCha the IDs stand in front, and the nonce before all
pub example-length : (length (plaintext Client 1000 0 (3 ∷ 1 ∷ 0x61 ∷ 0 ∷ 0x50 ∷ []) []) ≡ 16)
    × ((sealed_length AesGcm Client 5 0 0 ≡ 48) × (sealed_length (ChaChaPoly 10) Client 5 0 0 ≡ 72))
unfolding plaintext fixed_part to_be sealed_length
example-length = (refl, (refl, refl))
