use Rattle.settings_write.proofs.EntryLaws.{put-entry}
use Rattle.settings_write.proofs.write_entry.Goals as goal

pub returns : goal.returns
returns c =
    let a = c.args in
    put-entry a.out.now a.at a.number a.offset a.len _ _ _ c.requires c.write_u16_be.ensures c.write_u16_be-2.ensures
    c.write_u16_be-3.ensures
