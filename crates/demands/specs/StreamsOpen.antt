-- Demand 2 for streams: when exactly a head is accepted, and a piece opened.
-- Assumes nothing.
use Rattle.std.specs.Prelude.{◌≡◌, true, List, ◌↔◌, ℕ, ◌+◌, ◌≤◌, ◌<◌, length, get_or, take, Err, Ok, Some}
use Rattle.octets.specs.Buffers.{put}
use Rattle.octets.specs.Numbers.{be}
use Rattle.protocol.specs.declared.Refusal.TheVariants.{Empty}
use Rattle.protocol.specs.Subkey.{subkey}
use Rattle.protocol.specs.Method.{key_fits, key_length, salt_length}
use Rattle.protocol.specs.Time.{time_valid}
use Rattle.socks5.specs.declared.Address.{Address}
use Rattle.socks5.specs.Address.{parse_at}
use Rattle.salt_pool.specs.Pool.{store}
use Rattle.salt_pool.specs.Runs.{Unkept, LowestFree}
use Rattle.stream_pieces.specs.Framing.{framing_of}
use Rattle.stream_pieces.specs.Pieces.{authentic_at, open_at, subkey_words, Keyed, salted_key}
use Rattle.stream_chunks.specs.Opens as chunks
use Rattle.stream_chunks.specs.Opens.{PieceOpens}
use Rattle.stream_heads.specs.Heads.{max_padding, front_length, fixed_of}
use Rattle.stream_open.specs.declared.Turn.TheVariants.{Variable, Length, Payload}
use Rattle.stream_open.specs.declared.Receiver.{Receiver}
use Rattle.stream_open.specs.declared.Chunk.{Chunk}
use Rattle.stream_open_response.specs.declared.Response.{Response}
use Rattle.stream_open_request.specs.declared.Request.{Request}
use Rattle.stream_open.specs.Chunks.{receiver, stream_key, step_answer, step_out}
use Rattle.stream_open_response.specs.Responses.{binding_of, opened_response}
use Rattle.stream_open_request.specs.Requests.{settings, opened_request, request_pool}
use Rattle.stream_open_variable.specs.declared.VariableHeader.{VariableHeader}
use Rattle.stream_open_variable.specs.Variable.{padding_at, variable_answer, variable_out, variable_next}
use Rattle.demands.specs.StreamsKeep.{salt_of, time_in, length_in}

-- ---- a head is accepted exactly when

-- a sealed fixed header: its tag is good, it is of its type and of a valid time; and what it says
pub record FixedOpens (key : Keyed) (kind clock : ℕ) (s : List ℕ) (time size : ℕ) : Type 0 where
  pub authentic : authentic_at key 0 s ≡ true
  pub right-type : get_or (open_at key 0 s) 0 0 ≡ kind
  pub time-valid : time_valid time clock ≡ true
  pub says-time : time ≡ time_in (open_at key 0 s)
  pub says-length : size ≡ length_in (open_at key 0 s)

-- the front of a request's head: h is what it says, and st the stream that it hands on
pub record RequestOpens (method : ℕ) (key : List ℕ) (clock : ℕ) (s pool : List ℕ) (h : Request) (st : Receiver) : Type 0 where
  pub lawful-settings : settings method (length key) pool ≡ true
  pub front-whole : front_length (salt_length method) 0 ≤ length s
  pub time : ℕ
  pub size : ℕ
  pub fixed-opens : FixedOpens (salted_key method key (salt_of method s)) 0 clock (fixed_of (salt_length method) 0 s) time size
  -- the salt is not kept, and this is the lowest record that keeps none
  pub place : ℕ
  pub new-salt : Unkept pool clock (salt_of method s)
  pub free-place : LowestFree pool clock place
  pub says : h ≡ record { time = time; length = size; used = front_length (salt_length method) 0 }
  -- the variable header is next, with counter 1
  pub stream : st ≡ receiver method (Variable size) 1 (subkey_words (subkey key (salt_of method s)))

pub record RequestExactly (method : ℕ) (key : List ℕ) (clock : ℕ) (s pool : List ℕ) (h : Request) (st : Receiver) : Type 0 where
  pub only-when : opened_request method key clock s pool ≡ Ok (h, st) → RequestOpens method key clock s pool h st
  pub always-when : RequestOpens method key clock s pool h st → opened_request method key clock s pool ≡ Ok (h, st)
  -- the salt is in that record, with the clock
  pub salt-stored : (d : RequestOpens method key clock s pool h st)
      → request_pool method key clock s pool ≡ store pool d.place clock (salt_of method s)

abbrev pub RequestExactlyWhen : Type 0
RequestExactlyWhen =
    (method : ℕ) (key : List ℕ) (clock : ℕ) (s pool : List ℕ) (h : Request) (st : Receiver) → RequestExactly method key clock s pool h st

-- a variable header of so many bytes: an address at its start, and behind it a padding of at most 900 bytes, or a payload, or
-- both; h is what it says
pub record ValidVariable (size : ℕ) (plain : List ℕ) (h : VariableHeader) : Type 0 where
  pub address : Address
  pub address-found : parse_at plain 0 ≡ Some address
  pub length-there : address.end + 2 ≤ length plain
  pub padding-short : padding_at address.end plain ≤ max_padding
  pub padding-there : address.end + 2 + padding_at address.end plain ≤ length plain
  pub not-bare : address.end + 2 < length plain
  pub says : h
      ≡ record {
        target = address.target;
        port = address.port;
        padding = padding_at address.end plain;
        payload = address.end + 2 + padding_at address.end plain;
        length = size;
        used = size + 16;
      }

-- the piece of a variable header of so many bytes
abbrev pub variable_at : (size : ℕ) → List ℕ → List ℕ
variable_at size s = take (size + 16) s

pub record VariableOpens (st : Receiver) (s : List ℕ) (room : ℕ) (h : VariableHeader) : Type 0 where
  pub known : key_length st.method ≡ 0 → ⊥
  pub size : ℕ
  pub at_turn : st.turn ≡ Variable size
  pub counts : st.counter ≡ 1
  pub whole : size + 16 ≤ length s
  pub has_room : size ≤ room
  pub authentic : authentic_at (stream_key st) 1 (variable_at size s) ≡ true
  pub valid : ValidVariable size (open_at (stream_key st) 1 (variable_at size s)) h

pub record VariableExactly (st : Receiver) (s out : List ℕ) (h : VariableHeader) : Type 0 where
  pub only-when : variable_answer st s (length out) ≡ Ok h → VariableOpens st s (length out) h
  pub always-when : VariableOpens st s (length out) h → variable_answer st s (length out) ≡ Ok h
  -- its plaintext is in the buffer, and a length is next, with counter 2
  pub opened-text : (d : VariableOpens st s (length out) h) → variable_out st s out ≡ put out 0 (open_at (stream_key st) 1 (variable_at d.size s))
  pub length-next : variable_answer st s (length out) ≡ Ok h
      → variable_next st (variable_answer st s (length out)) ≡ receiver st.method Length 2 st.subkey

abbrev pub VariableExactlyWhen : Type 0
VariableExactlyWhen = (st : Receiver) (s out : List ℕ) (h : VariableHeader) → VariableExactly st s out h

pub record ResponseOpens (method : ℕ) (key : List ℕ) (clock : ℕ) (request_salt s : List ℕ) (h : Response) (st : Receiver) : Type 0 where
  pub front-whole : front_length (salt_length method) (salt_length method) ≤ length s
  pub time : ℕ
  pub size : ℕ
  pub fixed-opens : FixedOpens (salted_key method key (salt_of method s)) 1 clock (fixed_of (salt_length method) (salt_length method) s) time size
  pub for-us : binding_of (salt_length method)
      (open_at (salted_key method key (salt_of method s)) 0 (fixed_of (salt_length method) (salt_length method) s))
      ≡ request_salt
  pub not-empty : 0 < size
  pub says : h ≡ record { time = time; length = size; used = front_length (salt_length method) (salt_length method) }
  -- the stream goes on with the payload, with counter 1
  pub stream : st ≡ receiver method (Payload size) 1 (subkey_words (subkey key (salt_of method s)))

pub record ResponseExactly (method : ℕ) (key : List ℕ) (clock : ℕ) (request_salt s : List ℕ) (h : Response) (st : Receiver) : Type 0 where
  pub only-when : opened_response method key clock request_salt s ≡ Ok (h, st) → ResponseOpens method key clock request_salt s h st
  pub always-when : ResponseOpens method key clock request_salt s h st → opened_response method key clock request_salt s ≡ Ok (h, st)

abbrev pub ResponseExactlyWhen : Type 0
ResponseExactlyWhen =
    (method : ℕ) (key : List ℕ) (clock : ℕ) (request_salt s : List ℕ) → key_fits method (length key) ≡ true
    → length request_salt ≡ salt_length method → (h : Response) (st : Receiver) → ResponseExactly method key clock request_salt s h st

-- 14: all before it is good, and the first payload has no bytes
pub record ResponseEmpty (method : ℕ) (key : List ℕ) (clock : ℕ) (request_salt s : List ℕ) : Type 0 where
  pub front-whole : front_length (salt_length method) (salt_length method) ≤ length s
  pub time : ℕ
  pub fixed-opens : FixedOpens (salted_key method key (salt_of method s)) 1 clock (fixed_of (salt_length method) (salt_length method) s) time 0
  pub for-us : binding_of (salt_length method)
      (open_at (salted_key method key (salt_of method s)) 0 (fixed_of (salt_length method) (salt_length method) s))
      ≡ request_salt

abbrev pub ResponseEmptyExactlyWhen : Type 0
ResponseEmptyExactlyWhen =
    (method : ℕ) (key : List ℕ) (clock : ℕ) (request_salt s : List ℕ) → key_fits method (length key) ≡ true
    → length request_salt ≡ salt_length method
    → (opened_response method key clock request_salt s ≡ Err Empty) ↔ ResponseEmpty method key clock request_salt s

-- ---- a step is accepted exactly when

abbrev pub StepExactlyWhen : Type 0
StepExactlyWhen = chunks.StepExactlyWhen framing_of

-- 14: a length that is good in all but that it is 0
pub record StepEmpty (st : Receiver) (s : List ℕ) (room : ℕ) : Type 0 where
  pub known : key_length st.method ≡ 0 → ⊥
  pub at_length : st.turn ≡ Length
  pub opens : PieceOpens (stream_key st) st.counter 2 s 0 room
  pub says-0 : be 2 (open_at (stream_key st) st.counter (take 18 s)) ≡ 0

abbrev pub StepEmptyExactlyWhen : Type 0
StepEmptyExactlyWhen = (st : Receiver) (s : List ℕ) (room : ℕ) → (step_answer st s room ≡ Err Empty) ↔ StepEmpty st s room

-- ---- the bytes behind those used are not read

-- t begins with the first n bytes of s
abbrev pub Begins : (n : ℕ) → List ℕ → List ℕ → Type 0
Begins n s t = take n t ≡ take n s

-- what an accepted call answers and leaves, it answers and leaves for every string that begins with the bytes used
pub record BeyondUnread : Type 0 where
  pub requests : (method : ℕ) (key : List ℕ) (clock : ℕ) (s t pool : List ℕ) (h : Request) (st : Receiver)
      → opened_request method key clock s pool ≡ Ok (h, st) → Begins h.used s t
      → (opened_request method key clock t pool ≡ Ok (h, st)) × (request_pool method key clock t pool ≡ request_pool method key clock s pool)
  pub variable-headers : (st : Receiver) (s t out : List ℕ) (h : VariableHeader) → variable_answer st s (length out) ≡ Ok h
      → Begins h.used s t → (variable_answer st t (length out) ≡ Ok h) × (variable_out st t out ≡ variable_out st s out)
  pub responses : (method : ℕ) (key : List ℕ) (clock : ℕ) (request_salt s t : List ℕ) (h : Response) (st : Receiver) → key_fits method (length key) ≡ true
      → length request_salt ≡ salt_length method → opened_response method key clock request_salt s ≡ Ok (h, st) → Begins h.used s t
      → opened_response method key clock request_salt t ≡ Ok (h, st)
  pub steps : (st : Receiver) (s t out : List ℕ) (c : Chunk) → step_answer st s (length out) ≡ Ok c → Begins c.used s t
      → (step_answer st t (length out) ≡ Ok c) × (step_out st t out ≡ step_out st s out)
