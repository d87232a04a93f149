use borrow.Author.Rules.{rules}
use Rattle.datagram_parts.proofs.WritingLaws.{ids-law}
use Rattle.datagram_parts.proofs.Ids.write.Goals as goal

pub returns : goal.returns
returns c =
    ids-law _ _ _ _ _ c.requires c.write_u64_be.ensures (search rules)
