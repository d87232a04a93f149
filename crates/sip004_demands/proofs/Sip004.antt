-- The promises of the 2017 edition, all of them.
-- Assumes nothing.
use Rattle.sip004_demands.specs.Sip004.{Sip004Exactly, Sip004Bytes, Sip004Back, Sip004Keeps, Sip004Orders}
use Rattle.sip004_demands.proofs.Datagrams.{datagrams-exactly, datagrams-bytes, datagrams-back, datagrams-keep}
use Rattle.sip004_demands.proofs.DatagramOrders.{datagram-orders}
use Rattle.sip004_demands.proofs.Streams.{begins, streams-exactly, streams-bytes, streams-back, streams-keep}
use Rattle.sip004_demands.proofs.StreamOrders.{stream-orders}

pub sip004-exactly : Sip004Exactly
sip004-exactly = record { datagrams = datagrams-exactly; streams = streams-exactly }

pub sip004-bytes : Sip004Bytes
sip004-bytes = record { datagrams = datagrams-bytes; begun = begins; streams = streams-bytes }

pub sip004-back : Sip004Back
sip004-back = record { datagrams = datagrams-back; streams = streams-back }

pub sip004-keeps : Sip004Keeps
sip004-keeps = record { datagrams = datagrams-keep; streams = streams-keep }

pub sip004-orders : Sip004Orders
sip004-orders = record { datagrams = datagram-orders; streams = stream-orders }
