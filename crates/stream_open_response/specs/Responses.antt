-- Opening the head of a response (SIP022, section 3.1).
use Rattle.std.specs.Prelude.{Bool, cond, ◌&&◌, List, ℕ, eqb, leb, length, take, drop, Err, Ok, Result}
use Rattle.octets.specs.Buffers.{same}
use Rattle.protocol.specs.declared.Refusal.TheVariants.{Settings, More, Binding, Empty}
use Rattle.protocol.specs.Method.{key_fits, salt_length, cipher_of}
use Rattle.protocol.specs.Subkey.{subkey}
use Rattle.stream_pieces.specs.declared.Subkey.{Subkey}
use Rattle.stream_pieces.specs.Framing.{is_empty}
use Rattle.stream_pieces.specs.Pieces.{open_at, subkey_words, Keyed, keyed}
use Rattle.stream_open.specs.declared.Turn.TheVariants.{Payload}
use Rattle.stream_heads.specs.Heads.{front_length, fixed_of, open_fixed}
use Rattle.stream_open.specs.Chunks.{receiver}
use Rattle.stream_heads.specs.declared.Fixed.{Fixed}
use Rattle.protocol.specs.declared.Refusal.{Refusal}
use Rattle.stream_open_response.specs.declared.Response.{Response}
use Rattle.stream_open.specs.declared.Receiver.{Receiver}

-- ---- the response's head, in the order 1, 10, 4, 6, 7, 13, 14

-- the request's salt, as the response has it
abbrev pub binding_of : ℕ → List ℕ → List ℕ
binding_of n plain = take n (drop 9 plain)

-- the payload is the next step's, with counter 1; it may not be empty
abbrev pub bound_as : ℕ → Subkey → ℕ → Bool → Result Fixed Refusal → Result (Response × Receiver) Refusal
bound_as method w used ours (Ok f) =
    cond ours
    (cond (is_empty f.length) (Err Empty)
    (Ok (record { time = f.time; length = f.length; used = used }, receiver method (Payload f.length) 1 w))) (Err Binding)
bound_as method w used ours (Err r) = Err r

-- the fixed header alone, under a key, which the stream's state has as words
unfoldable pub bound_of : ℕ → Subkey → Keyed → (clock n : ℕ) → List ℕ → List ℕ → Result (Response × Receiver) Refusal
bound_of method w key clock n request_salt s =
    bound_as method w (front_length n n) (same (binding_of n (open_at key 0 s)) request_salt) (open_fixed key 1 clock s)

unfoldable pub response_at : ℕ → Subkey → Keyed → (clock n : ℕ) → List ℕ → List ℕ → Result (Response × Receiver) Refusal
response_at method w key clock n request_salt s = bound_of method w key clock n request_salt (fixed_of n n s)

module _ (method : ℕ) (key : List ℕ) (clock : ℕ) (request_salt s : List ℕ) where
  abbrev n : ℕ
  n = salt_length method

  abbrev k : List ℕ
  k = subkey key (take n s)

  unfoldable pub opened_response : Result (Response × Receiver) Refusal
  opened_response =
      cond (key_fits method (length key) && eqb (length request_salt) n)
      (cond (leb (front_length n n) (length s)) (response_at method (subkey_words k) (keyed (cipher_of method) k) clock n request_salt s)
      (Err (More (front_length n n)))) (Err Settings)
