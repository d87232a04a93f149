-- What the head of a response was sealed from is read back from it, and its first payload by the next step.
-- Assumes nothing.
use Rattle.std.specs.Prelude.{Err, Ok}
use mathlib.Core.Path.{◌≡◌, refl, sym, ap, ap₂, ◌∙◌}
use mathlib.Core.Bool.{Bool, true, false, cond, ◌&&◌, and-eq-true_iff}
use mathlib.Core.List.{List, ◌++◌, append_assoc}
use mathlib.Core.Logic.{⊎_elim}
use Prim.Native.Nat.{ℕ, ◌+◌, ◌^◌, ◌≤◌, ◌<◌}
use native.Mathlib.Omega.{arith}
use lib.Dec.{eqb, leb}
use lib.ListN.{length, take, drop}
use borrow.Author.Tests.{eq-eqb, ne_eqb, eqb-true}
use Rattle.octets.specs.Buffers.{same}
use Rattle.octets.proofs.BufferLaws.{same_refl}
use Rattle.protocol.specs.Method.{key_fits, key_length, salt_length, cipher_of}
use Rattle.protocol.specs.Subkey.{subkey}
use Rattle.protocol.specs.Time.{time_valid}
use Rattle.protocol.proofs.MethodLaws.{fits-sizes}
use Rattle.protocol.specs.declared.Refusal.TheVariants.{Settings, More, Empty}
use Rattle.stream_seal.specs.declared.Sender.{Sender}
use Rattle.stream_pieces.specs.Framing.{framing_of, is_empty}
use Rattle.stream_pieces.proofs.FramingLaws.{some_left}
use Rattle.stream_pieces.specs.Pieces.{seal_at, open_at, subkey_words, key_of, max_chunk, last_counter, Keyed, keyed, salted_key}
use Rattle.stream_seal_heads.specs.HeadSealing.{front, response_of, response, begun, sizes_fit, response_answer}
use Rattle.stream_open.specs.declared.Turn.TheVariants.{Length, Payload}
use Rattle.stream_heads.specs.Heads.{front_length, fixed_of, open_fixed}
use Rattle.stream_open.specs.Chunks.{receiver, step_answer, step_out}
use Rattle.stream_open_response.specs.Responses.{binding_of, bound_as, bound_of, response_at, opened_response}
use Rattle.demands.specs.StreamsBack.{ResponseBack, ResponsesGivenBack}
use Rattle.stream_seal_heads.proofs.HeadLengthLaws.{length-response_of}
use Rattle.stream_chunks.specs.Opens.{Within}
use Rattle.stream_chunks.proofs.ChunkBackLaws.{answers, denied, Sized, sized, sent-behind, payload-step, payload-out}
use Rattle.demands.proofs.StreamReadBack.{salt-back, front-whole, behind-front, binding-back, fixed_back, stream-key}

-- ---- the head of a response

pub record Responds (method : ℕ) (key salt binding : List ℕ) (payload room n : ℕ) (next : Sender) : Type 0 where
  pub fits : key_fits method (length key) ≡ true
  pub salt-fits : length salt ≡ salt_length method
  pub binding-fits : length binding ≡ length salt
  pub some : is_empty payload ≡ false
  pub sizes : Sized max_chunk payload (length salt + 27 + length binding) room (begun method key salt) n next

pub responds : (method : ℕ) (key salt binding : List ℕ) (payload room n : ℕ) (next : Sender)
    → response_answer method key salt binding payload room ≡ Ok (n, next) → Responds method key salt binding payload room n next
unfolding response_answer sizes_fit
responds method key salt binding payload room n next e =
    let e₁ = answers ((key_fits method (length key) && eqb (length salt) (salt_length method)) && eqb (length binding) (length salt)) _ _ n next e in
    let e₂ = denied (is_empty payload) _ _ n next e₁.then in
    let bound = (and-eq-true_iff (key_fits method (length key) && eqb (length salt) (salt_length method)) _).0 e₁.test in
    let keyed = (and-eq-true_iff (key_fits method (length key)) _).0 bound.0 in
    record {
      fits = keyed.0;
      salt-fits = eqb-true (length salt) (salt_length method) keyed.1;
      binding-fits = eqb-true (length binding) (length salt) bound.1;
      some = e₂.test;
      sizes = sized max_chunk payload (length salt + 27 + length binding) room (begun method key salt) n next e₂.then;
    }

module _ (method : ℕ) (key salt binding : List ℕ) (time : ℕ) (payload : List ℕ) (space n : ℕ) (next : Sender)
    (answered : response_answer method key salt binding (length payload) space ≡ Ok (n, next)) (time-fits : time < 2 ^ 64)
  where
    response-facts : Responds method key salt binding (length payload) space n next
    response-facts = responds method key salt binding (length payload) space n next answered

    -- a first payload that was sealed is not empty
    allows : Within (framing_of method) (length payload)
    allows = (some_left (length payload) response-facts.some, refl)

    abbrev response-key : Keyed
    response-key = salted_key method key salt

    abbrev salts : ℕ
    salts = salt_length method

    abbrev response-body : List ℕ
    response-body = seal_at response-key 1 payload

    salt-long : length salt ≡ salts
    salt-long = response-facts.salt-fits

    binding-long : length binding ≡ salts
    binding-long = response-facts.binding-fits ∙ salt-long

    response-split : (rest : List ℕ)
        → response (cipher_of method) key salt binding time payload ++ rest ≡ front response-key salt 1 time binding (length payload) ++ (response-body ++ rest)
    unfolding response response_of
    response-split rest = append_assoc (front response-key salt 1 time binding (length payload)) response-body rest

    response-length : length (response (cipher_of method) key salt binding time payload) ≡ n
    unfolding response
    response-length = length-response_of response-key salt binding time payload ∙ sym response-facts.sizes.count

    known_method : eqb (key_length method) 0 ≡ false
    known_method =
        let z = fits-sizes method (length key) response-facts.fits in
        ne_eqb (key_length method) 0 (λ e. ⊎_elim (λ f. omega (arith, z.key-is, e, f)) (λ f. omega (arith, z.key-is, e, f)) z.either)

    module _ (rest : List ℕ) where
      abbrev all : List ℕ
      all = front response-key salt 1 time binding (length payload) ++ (response-body ++ rest)

      binding-here : binding_of salts (open_at response-key 0 (fixed_of salts salts all)) ≡ binding
      binding-here =
          binding-back response-key salt 1 time binding (length payload) (response-body ++ rest) salts salts salt-long binding-long time-fits
          response-facts.sizes.small

      salt-here : take salts all ≡ salt
      salt-here =
          salt-back response-key salt 1 time binding (length payload) (response-body ++ rest) salts salts salt-long binding-long time-fits
          response-facts.sizes.small

      whole_here : leb (front_length salts salts) (length all) ≡ true
      whole_here =
          front-whole response-key salt 1 time binding (length payload) (response-body ++ rest) salts salts salt-long binding-long time-fits
          response-facts.sizes.small

      behind-here : drop (front_length salts salts) all ≡ response-body ++ rest
      behind-here =
          behind-front response-key salt 1 time binding (length payload) (response-body ++ rest) salts salts salt-long binding-long time-fits
          response-facts.sizes.small

      header-here : (clock : ℕ) → time_valid time clock ≡ true
          → open_fixed response-key 1 clock (fixed_of salts salts all) ≡ Ok (record { time = time; length = length payload })
      header-here =
          fixed_back response-key salt 1 time binding (length payload) (response-body ++ rest) salts salts salt-long binding-long time-fits
          response-facts.sizes.small

      head-accepted : (later : ℕ) → time_valid time later ≡ true
          → response_at method (subkey_words response-key.bytes) response-key later salts binding all
          ≡ Ok (record { time = time; length = length payload; used = front_length salts salts }, receiver method (Payload (length payload)) 1 (subkey_words response-key.bytes))
      unfolding response_at bound_of
      head-accepted later valid =
          let ours = ap (λ (x : List ℕ). same x binding) binding-here ∙ same_refl binding in
          let accepted =
          Ok (record { time = time; length = length payload; used = front_length salts salts }, receiver method (Payload (length payload)) 1 (subkey_words response-key.bytes)) in
          (λ i. bound_as method (subkey_words response-key.bytes) (front_length salts salts) (ours i) (header-here later valid i))
          ∙ ap (λ (b : Bool). cond b (Err Empty) accepted) response-facts.some

      response-accepted : (later : ℕ) → time_valid time later ≡ true
          → opened_response method key later binding all
          ≡ Ok (record { time = time; length = length payload; used = front_length salts salts }, receiver method (Payload (length payload)) 1 (subkey_words response-key.bytes))
      unfolding opened_response
      response-accepted later valid =
          (λ i. cond (response-facts.fits i && eq-eqb (length binding) salts binding-long i)
          (cond (whole_here i)
          (response_at method (subkey_words (subkey key (salt-here i))) (salted_key method key (salt-here i)) later salts binding all)
          (Err (More (front_length salts salts)))) (Err Settings))
          ∙ head-accepted later valid

      -- the payload's step
      same_key : keyed (cipher_of method) (key_of (subkey_words response-key.bytes) (key_length method)) ≡ response-key
      same_key = stream-key method key salt response-facts.fits

      behind-keyed : drop (front_length salts salts) all ≡ seal_at (keyed (cipher_of method) (key_of (subkey_words response-key.bytes) (key_length method))) 1 payload ++ rest
      behind-keyed = behind-here ∙ ap (λ (x : Keyed). seal_at x 1 payload ++ rest) (sym same_key)

      one-usable : 1 ≡ last_counter → ⊥
      one-usable e = omega (arith, e)

      response-given : (later : ℕ) → time_valid time later ≡ true → (out : List ℕ) → length payload ≤ length out
          → ResponseBack method key salt binding time payload n next later rest out
      response-given later valid out h =
          let used : length salt + 27 + length binding ≡ front_length salts salts = omega (arith, salt-long, binding-long) in
          let there : drop (length salt + 27 + length binding) (response (cipher_of method) key salt binding time payload ++ rest)
          ≡ seal_at (keyed (cipher_of method) (key_of (subkey_words response-key.bytes) (key_length method))) 1 payload ++ rest =
          ap₂ drop used (response-split rest) ∙ behind-keyed in
          let words : subkey_words response-key.bytes ≡ next.subkey = sym (ap (λ (x : Sender). x.subkey) response-facts.sizes.after) in
          record {
            sealed-length = response-length;
            accepted =
                ap (opened_response method key later binding) (response-split rest) ∙ response-accepted later valid
                ∙ (λ i. Ok (record { time = time; length = length payload; used = sym used i }, receiver method (Payload (length payload)) 1 (words i)));
            payload-read =
                (λ i. step_answer (receiver method (Payload (length payload)) 1 (sym words i)) (there i) (length out))
                ∙ payload-step (framing_of method) method 1 (subkey_words response-key.bytes) known_method one-usable payload rest allows (length out) h;
            payload-written =
                (λ i. step_out (receiver method (Payload (length payload)) 1 (sym words i)) (there i) out)
                ∙ payload-out (framing_of method) method 1 (subkey_words response-key.bytes) known_method one-usable payload rest allows out h;
            payload-next = λ i. receiver (sym response-facts.sizes.after i).method Length (sym response-facts.sizes.after i).counter next.subkey;
            counter-two = ap (λ (x : Sender). x.counter) response-facts.sizes.after;
            left =
                ap (drop (length payload + 16)) there
                ∙ sent-behind (framing_of method) method 1 (subkey_words response-key.bytes) known_method one-usable payload rest (length payload) refl;
          }

pub response-back : ResponsesGivenBack
response-back method key salt binding time payload space n next answered time-fits later valid rest out h =
    response-given method key salt binding time payload space n next answered time-fits rest later valid out h
