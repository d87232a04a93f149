-- The datagrams of a good plan, sealed by a client with a nonce that serves. Numbers are written out.
-- Assumes nothing.
use Rattle.std.specs.Prelude.{true, List, [], ◌∷◌, ◌≡◌, ℕ, ◌-◌, ◌^◌, ◌≤◌, ◌<◌, length, Err, Ok}
use Rattle.protocol.specs.declared.Refusal.TheVariants.{Length}
use Rattle.protocol.specs.Method.{key_fits, cipher_of}
use Rattle.datagram_parts.specs.declared.Side.TheVariants.{Client}
use Rattle.datagram_seal.specs.declared.Sender.{Sender}
use Rattle.datagram_seal.specs.Sealing.{sealed_length, seal_answer, datagram}
use Rattle.plan_pieces.specs.Plans.{Piece}
use Rattle.plan_demands.specs.Plans.{Lawful, GoodPlan}

-- a client's sending session
abbrev pub client_at : (id packet : ℕ) → Sender
client_at id packet = record { side = Client; id = id; packet = packet }

-- how many bytes a nonce has: 24 by methods 3 to 5; by methods 1 and 2 it is not looked at
abbrev pub Serves : (method nonce : ℕ) → Type 0
Serves method nonce = 2 < method → nonce ≡ 24

-- how long the datagram of a piece is
abbrev pub length_of : ℕ → List ℕ → Piece → ℕ
length_of method address x = sealed_length (cipher_of method) Client (length address) x.padding x.bytes

pub record Seals (method : ℕ) (address : List ℕ) (limit : ℕ) (x : Piece) : Type 0 where
  pub within : length_of method address x ≤ limit
  -- and so is the datagram itself, whatever the payload of that length
  pub bytes-within : (key nonce : List ℕ) → Serves method (length nonce) → (id packet time : ℕ) (payload : List ℕ) → length payload ≡ x.bytes
      → length (datagram (cipher_of method) key nonce (client_at id packet) time address x.padding payload) ≤ limit
  -- never refused for its length, whatever the key, the nonce, the session and the room
  pub never-2 : (k nonce id packet room : ℕ)
      → seal_answer method k nonce (client_at id packet) address x.padding x.bytes room ≡ Err Length → ⊥
  -- sealed, with a key of the method, a nonce that serves, a packet ID left, and room for the limit
  pub sealed : (k nonce id packet room : ℕ) → key_fits method k ≡ true → Serves method nonce → (packet ≡ 2 ^ 64 - 1 → ⊥) → limit ≤ room
      → seal_answer method k nonce (client_at id packet) address x.padding x.bytes room ≡ Ok (length_of method address x)

abbrev pub EachSeals : ℕ → List ℕ → ℕ → List Piece → Type 0
EachSeals method address limit [] = Unit {0}
EachSeals method address limit (x ∷ p) = Seals method address limit x × EachSeals method address limit p

-- by all five methods
abbrev pub PlanSeals : Type 0
PlanSeals =
    (method : ℕ) (address : List ℕ) (limit n : ℕ) → Lawful method address limit n → (p : List Piece) → GoodPlan method address limit n p
    → EachSeals method address limit p
