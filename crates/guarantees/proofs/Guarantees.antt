-- All that is promised of the exported functions.
-- Assumes nothing.
use Rattle.guarantees.specs.Guarantees.{Guarantees}
use Rattle.guarantees.proofs.Runs as runs
use Rattle.guarantees.proofs.Exactly as exact
use Rattle.guarantees.proofs.DatagramsBack as datagrams
use Rattle.guarantees.proofs.HeadsBack as heads
use Rattle.guarantees.proofs.ChunksBack as chunks
use Rattle.guarantees.proofs.StreamsBack as streams
use Rattle.guarantees.proofs.Book as book
use Rattle.guarantees.proofs.Pools as pools
use Rattle.guarantees.proofs.Tells as tells

pub guarantees : Guarantees
guarantees = record {
  demand-1 = runs.demand1;
  exactly = exact.exactly;
  datagrams-back = datagrams.datagrams-back;
  requests-back = heads.requests-back;
  responses-back = heads.responses-back;
  chunks-back = chunks.chunks-back;
  streams-back = streams.streams-back;
  datagrams-back-2017 = heads.datagrams-back-2017;
  begun-alike-2017 = streams.begun-alike-2017;
  chunks-back-2017 = chunks.chunks-back-2017;
  streams-back-2017 = streams.streams-back-2017;
  demand-3 = book.demand3;
  rearranged = book.rearranged;
  replies = book.replies;
  heads-once = pools.once;
  salt-stays = pools.stays;
  refusals-tell = tells.tells;
}
