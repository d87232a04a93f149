use Rattle.stream_heads.proofs.HeadLaws.{fixed-opened, fixed-forged}
use Rattle.stream_heads.proofs.open_fixed.Goals as goal

pub returns-then-not-open_piece : goal.returns-then-not-open_piece
returns-then-not-open_piece c = let all = fixed-forged _ _ _ _ _ _ _ c.open_piece.ensures.value c.open_piece.ensures.out_after c.requires.s_len c.if-not-open_piece.true in record { value = all.0; plain_after = all.1 }

pub returns : goal.returns
returns c = let all = fixed-opened _ _ _ _ _ _ _ c.open_piece.ensures.value c.open_piece.ensures.out_after c.requires.s_len c.if-not-open_piece.false _
    c.read_fixed.ensures in record { value = all.0; plain_after = all.1 }
