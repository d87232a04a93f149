-- What the head of a request was sealed from is read back from it: each field, the payload, and the stream's state.
-- Assumes nothing.
use mathlib.Core.Path.{◌≡◌, refl, sym, ap, ap₂, ◌∙◌}
use mathlib.Core.Bool.{true, false, cond, ◌&&◌, and-eq-true_iff}
use mathlib.Core.Logic.{⊎_elim}
use mathlib.Core.List.{List, [], ◌++◌, append_assoc}
use Prim.Native.Nat.{ℕ, ◌+◌, ◌^◌, ◌≤◌, ◌<◌}
use native.Mathlib.Nat.{zero-add}
use native.Mathlib.Omega.{arith}
use lib.Dec.{eqb, leb, ltb}
use lib.ListN.{length, take, drop, replicate, length-append, length-replicate}
use lib.Seq.{take_at, drop_at, drop-drop, drop-append_seam}
use borrow.Author.Tests.{ne_eqb, le-leb, lt-ltb, leb-true, ltb-true, eqb-true}
use Rattle.octets.specs.Buffers.{put}
use Rattle.octets.specs.Numbers.{be, to_be}
use Rattle.octets.proofs.NumberLaws.{length-to_be, be-front}
use Rattle.protocol.specs.Method.{key_fits, key_length, salt_length, cipher_of}
use Rattle.protocol.proofs.MethodLaws.{fits-sizes}
use Rattle.protocol.specs.Time.{time_valid}
use Rattle.protocol.specs.declared.Refusal.TheVariants.{Settings, More, Malformed}
use Rattle.socks5.specs.declared.Address.{Address}
use Rattle.socks5.specs.declared.Target.{Target}
use Rattle.socks5.specs.declared.Target.TheVariants.{V4, V6, Name}
use Rattle.socks5.specs.Address.{parse_at, is_address, moved as moved_by}
use Rattle.socks5.proofs.PlaceLaws.{One, one_found, found-anywhere}
use Rattle.std.specs.Prelude.{Ok, Err, Result, Some}
use Rattle.salt_pool.specs.Pool.{lawful, meet, store}
use Rattle.stream_seal.specs.declared.Sender.{Sender}
use Rattle.stream_pieces.specs.Pieces.{seal_at, authentic_at, open_at, subkey_words, max_chunk, Keyed, salted_key}
use Rattle.stream_heads.specs.Heads.{max_padding, front_length, fixed_of, open_fixed}
use Rattle.stream_seal_heads.specs.HeadSealing.{front, variable_part, variable_length, request_at, request, begun, sizes_fit, padding_lawful, request_answer}
use Rattle.stream_open.specs.declared.Turn.TheVariants.{Variable, Length}
use Rattle.stream_open.specs.declared.Receiver.{Receiver}
use Rattle.stream_heads.specs.declared.Fixed.{Fixed}
use Rattle.stream_open.specs.Chunks.{receiver, stream_key}
use Rattle.stream_open_request.specs.Requests.{fixed_as, read_front, fixed_pool, front_pool, settings, opened_as, opened_request, request_pool}
use Rattle.stream_open_variable.specs.declared.VariableHeader.{VariableHeader}
use Rattle.stream_open_variable.specs.Variable.{padding_at, padding_fits, header_with, read_variable, settled, variable_answer, variable_out}
use Rattle.demands.specs.StreamsOpen.{variable_at}
use Rattle.demands.specs.StreamsBack.{sealed_header, RequestBack, RequestsGivenBack}
use Rattle.stream_pieces.proofs.LengthLaws.{length-seal_at}
use Rattle.stream_seal_heads.proofs.HeadLengthLaws.{length-variable_part, length-request_at}
use Rattle.stream_pieces.proofs.PieceLaws.{piece_back}
use Rattle.stream_chunks.proofs.ChunkBackLaws.{answers, Sized, sized}
use Rattle.demands.proofs.StreamReadBack.{salt-back, front-whole, behind-front, fixed_back, stream-key}
use Rattle.demands.proofs.VariableTells.{header-by, text-by}
use Rattle.protocol.specs.declared.Refusal.{Refusal}

-- ---- the variable header of a request

moved_none : (t : Target) → moved_by 0 t ≡ t
moved_none (V4 x) = refl
moved_none (V6 x y) = refl
moved_none (Name place n) = ap (λ (k : ℕ). Name k n) (zero-add place)

module _ (address : List ℕ) (padding : ℕ) (payload : List ℕ) (padding-short : padding ≤ max_padding)
    (filled : 0 < padding + length payload) (one : is_address address ≡ true) (a : Address) (found : parse_at address 0 ≡ Some a)
  where
    abbrev variable : List ℕ
    variable = variable_part address padding payload

    behind-address : drop (length address) variable ≡ to_be 2 padding ++ (replicate padding 0 ++ payload)
    unfolding variable_part
    behind-address = drop-append_seam address (to_be 2 padding ++ (replicate padding 0 ++ payload))

    padding-back : padding_at (length address) variable ≡ padding
    padding-back = ap (be 2) behind-address ∙ be-front 2 padding (replicate padding 0 ++ payload) (omega arith)

    payload-back : drop (length address + 2 + padding) variable ≡ payload
    payload-back =
        sym (drop-drop padding (length address + 2) variable)
        ∙ ap (drop padding)
        (sym (drop-drop 2 (length address) variable) ∙ ap (drop 2) behind-address
        ∙ drop_at (to_be 2 padding) (replicate padding 0 ++ payload) 2 (length-to_be 2 padding))
        ∙ drop_at (replicate padding 0) payload padding (length-replicate padding 0)

    address-back : parse_at variable 0 ≡ Some (record { target = a.target; port = a.port; end = length address })
    unfolding variable_part
    address-back =
        found-anywhere [] address (to_be 2 padding ++ (replicate padding 0 ++ payload)) a one found
        ∙ (λ i. Some (record { target = moved_none a.target i; port = a.port; end = zero-add (length address) i }))

    variable-long : length variable ≡ length address + 2 + padding + length payload
    unfolding variable_length
    variable-long = length-variable_part address padding payload

    fits-back : padding_fits (length address) variable ≡ true
    unfolding padding_fits
    fits-back =
        let l = variable-long in
        let e₁ = le-leb (length address + 2) (length variable) (omega (arith, l)) in
        let e₂ = ap (λ (k : ℕ). leb k max_padding) padding-back ∙ le-leb padding max_padding padding-short in
        let e₃ =
        ap (λ (k : ℕ). leb (length address + 2 + k) (length variable)) padding-back
        ∙ le-leb (length address + 2 + padding) (length variable) (omega (arith, l)) in
        let e₄ = lt-ltb (length address + 2) (length variable) (omega (arith, l)) in
        λ i. e₁ i && (e₂ i && (e₃ i && e₄ i))

    variable-reads : read_variable (length variable) variable ≡ Ok (sealed_header (length address) a padding (length payload))
    unfolding read_variable variable_length
    variable-reads =
        ap (header_with (length variable) variable) address-back
        ∙ (λ i. cond (fits-back i)
        (Ok
        (record {
          target = a.target;
          port = a.port;
          padding = padding-back i;
          payload = length address + 2 + padding-back i;
          length = variable-long i;
          used = variable-long i + 16;
        }))
        (Err Malformed))

-- ---- the head of a request

pub record Requests (method : ℕ) (key salt address : List ℕ) (padding payload room n : ℕ) (next : Sender) : Type 0 where
  pub fits : key_fits method (length key) ≡ true
  pub salt-fits : length salt ≡ salt_length method
  pub one_address : is_address address ≡ true
  pub padding-short : padding ≤ max_padding
  pub filled : 0 < padding + payload
  pub sizes : Sized max_chunk (variable_length (length address) padding payload) (length salt + 27) room (begun method key salt) n next

pub requests : (method : ℕ) (key salt address : List ℕ) (padding payload room n : ℕ) (next : Sender)
    → request_answer method key salt address padding payload room ≡ Ok (n, next) → Requests method key salt address padding payload room n next
unfolding request_answer sizes_fit padding_lawful
requests method key salt address padding payload room n next e =
    let e₁ = answers (key_fits method (length key) && eqb (length salt) (salt_length method)) _ _ n next e in
    let e₂ = answers (is_address address && (leb padding max_padding && ltb 0 (padding + payload))) _ _ n next e₁.then in
    let keyed = (and-eq-true_iff (key_fits method (length key)) _).0 e₁.test in
    let asked = (and-eq-true_iff (is_address address) _).0 e₂.test in
    let pads = (and-eq-true_iff (leb padding max_padding) _).0 asked.1 in
    record {
      fits = keyed.0;
      salt-fits = eqb-true (length salt) (salt_length method) keyed.1;
      one_address = asked.0;
      padding-short = leb-true padding max_padding pads.0;
      filled = ltb-true 0 (padding + payload) pads.1;
      sizes = sized max_chunk (variable_length (length address) padding payload) (length salt + 27) room (begun method key salt) n next e₂.then;
    }

module _ (method : ℕ) (key salt : List ℕ) (time : ℕ) (address : List ℕ) (padding : ℕ) (payload : List ℕ) (space n : ℕ) (next : Sender)
    (answered : request_answer method key salt address padding (length payload) space ≡ Ok (n, next)) (time-fits : time < 2 ^ 64)
  where
    request-facts : Requests method key salt address padding (length payload) space n next
    request-facts = requests method key salt address padding (length payload) space n next answered

    abbrev request-key : Keyed
    request-key = salted_key method key salt

    abbrev salts : ℕ
    salts = salt_length method

    abbrev text : List ℕ
    text = variable_part address padding payload

    abbrev body : List ℕ
    body = seal_at request-key 1 text

    target : One address
    target = one_found address request-facts.one_address

    request-split : (rest : List ℕ) → request (cipher_of method) key salt time address padding payload ++ rest
        ≡ front request-key salt 0 time [] (length text) ++ (body ++ rest)
    unfolding request request_at
    request-split rest = append_assoc (front request-key salt 0 time [] (length text)) body rest

    text-long : length text ≤ max_chunk
    text-long = omega (arith, length-variable_part address padding payload, request-facts.sizes.small)

    request-length : length (request (cipher_of method) key salt time address padding payload) ≡ n
    unfolding request
    request-length = length-request_at request-key salt time address padding payload ∙ sym request-facts.sizes.count

    module _ (rest : List ℕ) where
      abbrev all : List ℕ
      all = front request-key salt 0 time [] (length text) ++ (body ++ rest)

      salt-here : take salts all ≡ salt
      salt-here = salt-back request-key salt 0 time [] (length text) (body ++ rest) salts 0 request-facts.salt-fits refl time-fits text-long

      whole_here : leb (front_length salts 0) (length all) ≡ true
      whole_here = front-whole request-key salt 0 time [] (length text) (body ++ rest) salts 0 request-facts.salt-fits refl time-fits text-long

      behind-here : drop (front_length salts 0) all ≡ body ++ rest
      behind-here = behind-front request-key salt 0 time [] (length text) (body ++ rest) salts 0 request-facts.salt-fits refl time-fits text-long

      abbrev fields : Fixed
      fields = record { time = time; length = length text }

      header-here : (clock : ℕ) → time_valid time clock ≡ true → open_fixed request-key 0 clock (fixed_of salts 0 all) ≡ Ok fields
      header-here = fixed_back request-key salt 0 time [] (length text) (body ++ rest) salts 0 request-facts.salt-fits refl time-fits text-long

      -- the front, on a pool with room for the salt

      module _ (later : ℕ) (valid : time_valid time later ≡ true) (pool : List ℕ) (made : lawful pool method ≡ true) (place : ℕ)
          (free : meet pool later salt ≡ Ok place) where
        lawful-settings : settings method (length key) pool ≡ true
        unfolding settings
        lawful-settings = λ i. request-facts.fits i && made i

        met-here : meet pool later (take salts all) ≡ Ok place
        met-here = ap (meet pool later) salt-here ∙ free

        front-key : salted_key method key (take salts all) ≡ request-key
        front-key = ap (salted_key method key) salt-here

        fixed-here : open_fixed (salted_key method key (take salts all)) 0 later (fixed_of salts 0 all) ≡ Ok fields
        fixed-here = ap (λ (x : Keyed). open_fixed x 0 later (fixed_of salts 0 all)) front-key ∙ header-here later valid

        all-accepted : opened_request method key later all pool
            ≡ Ok (record { time = time; length = length text; used = front_length salts 0 }, receiver method (Variable (length text)) 1 (subkey_words request-key.bytes))
        unfolding opened_request read_front
        all-accepted =
            (λ i. cond (lawful-settings i)
            (cond (whole_here i) (opened_as method (subkey_words (front-key i).bytes) (front_length salts 0) (fixed_as (met-here i) (fixed-here i)))
            (Err (More (front_length salts 0)))) (Err Settings))

        all-stored : request_pool method key later all pool ≡ store pool place later salt
        unfolding request_pool front_pool
        all-stored =
            (λ i. cond (lawful-settings i && whole_here i) (fixed_pool (met-here i) (fixed-here i) later (salt-here i) pool) pool)

      -- the variable header, from the bytes behind the front

      variable-there : variable_at (length text) (body ++ rest) ≡ body
      variable-there = take_at body rest (length text + 16) (length-seal_at request-key 1 text)

      abbrev waiting : Receiver
      waiting = receiver method (Variable (length text)) 1 (subkey_words request-key.bytes)

      -- the key that the state holds as words
      key_here : stream_key waiting ≡ request-key
      key_here = stream-key method key salt request-facts.fits

      known_method : eqb (key_length method) 0 ≡ false
      known_method =
          let z = fits-sizes method (length key) request-facts.fits in
          ne_eqb (key_length method) 0 (λ e. ⊎_elim (λ f. omega (arith, z.key-is, e, f)) (λ f. omega (arith, z.key-is, e, f)) z.either)

      long-here : length text + 16 ≤ length (body ++ rest)
      long-here = omega (arith, length-append body rest, length-seal_at request-key 1 text)

      authentic-here : authentic_at (stream_key waiting) 1 (variable_at (length text) (body ++ rest)) ≡ true
      authentic-here = (λ i. authentic_at (key_here i) 1 (variable-there i)) ∙ (piece_back request-key 1 text).0

      opens-here : open_at (stream_key waiting) 1 (variable_at (length text) (body ++ rest)) ≡ text
      opens-here = (λ i. open_at (key_here i) 1 (variable-there i)) ∙ (piece_back request-key 1 text).1

      abbrev header : VariableHeader
      header = sealed_header (length address) target.address padding (length payload)

      reads_here : read_variable (length text) text ≡ Ok header
      reads_here =
          variable-reads address padding payload request-facts.padding-short request-facts.filled request-facts.one_address
          target.address target.found

      module _ (out : List ℕ) (room : length text ≤ length out) where
        variable-answered : variable_answer waiting (body ++ rest) (length out) ≡ Ok header
        variable-answered =
            header-by waiting (body ++ rest) out (length text) true true true true known_method refl refl
            (le-leb (length text + 16) (length (body ++ rest)) long-here) (le-leb (length text) (length out) room) authentic-here
            ∙ ap (read_variable (length text)) opens-here ∙ reads_here

        variable-written : variable_out waiting (body ++ rest) out ≡ put out 0 text
        variable-written =
            text-by waiting (body ++ rest) out (length text) true true true true known_method refl refl
            (le-leb (length text + 16) (length (body ++ rest)) long-here) (le-leb (length text) (length out) room) authentic-here
            ∙ (λ i. settled (read_variable (length text) (opens-here i)) (length text) (put out 0 (opens-here i)))
            ∙ ap (λ (x : Result VariableHeader Refusal). settled x (length text) (put out 0 text)) reads_here

      -- both calls

      request-given : (later : ℕ) → time_valid time later ≡ true → (pool out : List ℕ) → lawful pool method ≡ true → (place : ℕ)
          → meet pool later salt ≡ Ok place → length text ≤ length out
          → RequestBack method key salt time address padding payload n next later rest pool place out
      unfolding variable_length
      request-given later valid pool out made place free room =
          let size : length text ≡ length address + 2 + padding + length payload = length-variable_part address padding payload in
          let used : length salt + 27 ≡ front_length salts 0 = omega (arith, request-facts.salt-fits) in
          let there : drop (length salt + 27) (request (cipher_of method) key salt time address padding payload ++ rest) ≡ body ++ rest =
          ap₂ drop used (request-split rest) ∙ behind-here in
          let words : subkey_words request-key.bytes ≡ next.subkey = sym (ap (λ (x : Sender). x.subkey) request-facts.sizes.after) in
          record {
            sealed-length = request-length;
            accepted =
                ap (λ (s : List ℕ). opened_request method key later s pool) (request-split rest) ∙ all-accepted later valid pool made place free
                ∙ (λ i. Ok (record { time = time; length = size i; used = sym used i }, receiver method (Variable (size i)) 1 (words i)));
            stored = ap (λ (s : List ℕ). request_pool method key later s pool) (request-split rest) ∙ all-stored later valid pool made place free;
            target = target.address;
            target-sealed = target.found;
            variable-read =
                (λ i. variable_answer (receiver method (Variable (sym size i)) 1 (sym words i)) (there i) (length out)) ∙ variable-answered out room;
            text = (λ i. variable_out (receiver method (Variable (sym size i)) 1 (sym words i)) (there i) out) ∙ variable-written out room;
            payload-there =
                payload-back address padding payload request-facts.padding-short request-facts.filled request-facts.one_address
                target.address target.found;
            variable-next = λ i. receiver (sym request-facts.sizes.after i).method Length (sym request-facts.sizes.after i).counter next.subkey;
            counter-two = ap (λ (x : Sender). x.counter) request-facts.sizes.after;
            used_all = omega (arith, request-facts.sizes.count);
            left =
                ap₂ drop (ap (λ (k : ℕ). k + 16) (sym size)) there
                ∙ drop_at body rest (length text + 16) (length-seal_at request-key 1 text);
          }

pub request-back : RequestsGivenBack
request-back method key salt time address padding payload space n next answered time-fits later valid pool made place free rest out room =
    request-given method key salt time address padding payload space n next answered time-fits rest later valid pool out made place free room
