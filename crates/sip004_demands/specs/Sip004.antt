-- What is promised of the 2017 edition (SIP004), of its datagrams and its streams, for its three methods at once. It has no time, window
-- or pool, so it touches no table, and demand 3 does not speak of it.
-- Assumes nothing.
use Rattle.std.specs.Prelude.{List, ℕ}
use Rattle.sip004_demands.specs.Datagrams.{DatagramsExactly, DatagramsBytes, DatagramsBack, DatagramsKeep}
use Rattle.sip004_demands.specs.DatagramOrders.{DatagramOrders}
use Rattle.sip004_demands.specs.Streams.{Begins, StreamsExactly, StreamsBytes, StreamsBack, StreamsKeep}
use Rattle.sip004_demands.specs.StreamOrders.{StreamOrders}

-- opened exactly when authentic
pub record Sip004Exactly : Type 0 where
  pub datagrams : DatagramsExactly
  pub streams : StreamsExactly

-- sealed byte for byte
pub record Sip004Bytes : Type 0 where
  pub datagrams : DatagramsBytes
  pub begun : (method : ℕ) (key salt : List ℕ) → Begins method key salt
  pub streams : StreamsBytes

-- what is sealed opens to the same payloads
pub record Sip004Back : Type 0 where
  pub datagrams : DatagramsBack
  pub streams : StreamsBack

-- what refusals there are, and what they leave
pub record Sip004Keeps : Type 0 where
  pub datagrams : DatagramsKeep
  pub streams : StreamsKeep

pub record Sip004Orders : Type 0 where
  pub datagrams : DatagramOrders
  pub streams : StreamOrders
