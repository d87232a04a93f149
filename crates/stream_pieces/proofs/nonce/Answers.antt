use borrow.Author.Rules.{rules}
use Rattle.stream_pieces.proofs.PieceLaws.{nonce-law}
use Rattle.stream_pieces.proofs.nonce.Goals as goal

pub returns : goal.returns
returns c = nonce-law _ _ c.ranges.counter.fits (search rules)
