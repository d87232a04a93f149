-- Opening the front of a request's head (SIP022, section 3.1) on a salt pool: what is answered, and what becomes of the pool.
use Rattle.std.specs.Prelude.{Bool, cond, ◌&&◌, List, ℕ, leb, length, take, Err, Ok, Result}
use Rattle.protocol.specs.declared.Refusal.TheVariants.{Settings, Replay, Full, More}
use Rattle.protocol.specs.Method.{key_fits, salt_length, cipher_of}
use Rattle.protocol.specs.Subkey.{subkey}
use Rattle.salt_pool.specs.Pool.{Met}
use Rattle.std.specs.Prelude.{Ok, Err}
use Rattle.salt_pool.specs.Pool.{Replay as Known, Full as NoRoom}
use Rattle.salt_pool.specs.Pool.{lawful, meet, store}
use Rattle.stream_pieces.specs.declared.Subkey.{Subkey}
use Rattle.stream_pieces.specs.Pieces.{subkey_words, Keyed, keyed}
use Rattle.stream_heads.specs.declared.Fixed.{Fixed}
use Rattle.stream_heads.specs.Heads.{front_length, fixed_of, open_fixed}
use Rattle.stream_open.specs.declared.Turn.TheVariants.{Variable}
use Rattle.stream_open.specs.Chunks.{receiver}
use Rattle.protocol.specs.declared.Refusal.{Refusal}
use Rattle.stream_open_request.specs.declared.Request.{Request}
use Rattle.stream_open.specs.declared.Receiver.{Receiver}

-- ---- the salt, behind a good fixed header: 8, 9

abbrev pub met_as : Met → Fixed → Result Fixed Refusal
met_as (Ok i) f = Ok f
met_as (Err Known) f = Err Replay
met_as (Err NoRoom) f = Err Full

-- a salt that is new enters the pool, with the clock
abbrev pub stored_in : Met → (clock : ℕ) → List ℕ → List ℕ → List ℕ
stored_in (Ok i) clock salt pool = store pool i clock salt
stored_in (Err Known) clock salt pool = pool
stored_in (Err NoRoom) clock salt pool = pool

-- ---- the front of a stream whose salt has n bytes, behind the tests for its settings and its length: 4, 6, 7, 8, 9

abbrev pub fixed_as : Met → Result Fixed Refusal → Result Fixed Refusal
fixed_as m (Ok f) = met_as m f
fixed_as m (Err r) = Err r

unfoldable pub read_front : Keyed → (clock n : ℕ) → List ℕ → List ℕ → Result Fixed Refusal
read_front key clock n s pool = fixed_as (meet pool clock (take n s)) (open_fixed key 0 clock (fixed_of n 0 s))

abbrev pub fixed_pool : Met → Result Fixed Refusal → (clock : ℕ) → List ℕ → List ℕ → List ℕ
fixed_pool m (Ok f) clock salt pool = stored_in m clock salt pool
fixed_pool m (Err r) clock salt pool = pool

unfoldable pub front_pool : Keyed → (clock n : ℕ) → List ℕ → List ℕ → List ℕ
front_pool key clock n s pool =
    fixed_pool (meet pool clock (take n s)) (open_fixed key 0 clock (fixed_of n 0 s)) clock (take n s) pool

-- ---- the whole: 1, 10, and the front's

-- a key of k bytes, and the pool
unfoldable pub settings : ℕ → ℕ → List ℕ → Bool
settings method k pool = key_fits method k && lawful pool method

-- the stream has the variable header next, with counter 1
abbrev pub opened_as : ℕ → Subkey → (used : ℕ) → Result Fixed Refusal → Result (Request × Receiver) Refusal
opened_as method w used (Ok f) =
    Ok (record { time = f.time; length = f.length; used = used }, receiver method (Variable f.length) 1 w)
opened_as method w used (Err r) = Err r

module _ (method : ℕ) (key : List ℕ) (clock : ℕ) (s pool : List ℕ) where
  abbrev n : ℕ
  n = salt_length method

  abbrev k : List ℕ
  k = subkey key (take n s)

  abbrev whole : Bool
  whole = leb (front_length n 0) (length s)

  unfoldable pub opened_request : Result (Request × Receiver) Refusal
  opened_request =
      cond (settings method (length key) pool)
      (cond whole (opened_as method (subkey_words k) (front_length n 0) (read_front (keyed (cipher_of method) k) clock n s pool)) (Err (More (front_length n 0))))
      (Err Settings)

  unfoldable pub request_pool : List ℕ
  request_pool = cond (settings method (length key) pool && whole) (front_pool (keyed (cipher_of method) k) clock n s pool) pool
