use mathlib.Core.Path.{sym, ap, ◌∙◌}
use native.Mathlib.Omega.{arith}
use lib.ListN.{length}
use Rattle.stream_pieces.proofs.LengthLaws.{length-nonce}
use Rattle.stream_pieces.proofs.PieceLaws.{key-inside, length-key, key-there, piece-opened}
use Rattle.stream_pieces.proofs.key.PieceKey.open_piece.Goals as goal

pub slice_bounds-key-end : goal.slice_bounds-key-end
slice_bounds-key-end c =
    key-inside c.args.self _ c.subkey_bytes-key.ensures

pub slice_bounds-open-end : goal.slice_bounds-open-end
slice_bounds-open-end c = sym (length-key c.args.self _ c.subkey_bytes-key.ensures)

pub open-requires : goal.open-requires
open-requires c = record { key_for = key-there c.args.self _ c.subkey_bytes-key.ensures; nonce_len = ap length c.nonce-n.ensures ∙ length-nonce _; tag_length_in_bounds = c.requires.tag_length_in_bounds; s_len_bound = omega (arith, c.requires.s_len_bound); tag_length_in_bounds_2 = c.requires.tag_length_in_bounds_2 }

pub returns : goal.returns
returns c =
    let a = c.args in let all = piece-opened a.self.cipher a.self.subkey a.self.length a.counter _ _ _ _ _ _ c.subkey_bytes-key.ensures c.nonce-n.ensures c.open.ensures.value
    c.open.ensures.out_after in record { value = all.0; out_after = all.1 }
