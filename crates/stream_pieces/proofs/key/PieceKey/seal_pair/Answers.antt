use mathlib.Core.Path.{sym, ap, ◌∙◌}
use native.Mathlib.Omega.{arith}
use lib.ListN.{length}
use Rattle.stream_pieces.proofs.LengthLaws.{length-nonce}
use Rattle.stream_pieces.proofs.PieceLaws.{key-inside, length-key, key-there, pair-sealed}
use Rattle.stream_pieces.proofs.key.PieceKey.seal_pair.Goals as goal

pub overflow_add-counter : goal.overflow_add-counter
overflow_add-counter c = omega (arith, c.requires.counter_lt_last_counter)

pub slice_bounds-key-end : goal.slice_bounds-key-end
slice_bounds-key-end c =
    key-inside c.args.self _ c.subkey_bytes-key.ensures

pub slice_bounds-seal_pair-end : goal.slice_bounds-seal_pair-end
slice_bounds-seal_pair-end c = sym (length-key c.args.self _ c.subkey_bytes-key.ensures)

pub seal_pair-requires : goal.seal_pair-requires
seal_pair-requires c = record { key_for = key-there c.args.self _ c.subkey_bytes-key.ensures; first_len = ap length c.nonce-first.ensures ∙ length-nonce _; second_len = ap length c.nonce-second.ensures ∙ length-nonce _; tag_length_le_at = c.requires.tag_length_le_at; tag_length_in_bounds = c.requires.tag_length_in_bounds; body_len_bound = omega (arith, c.requires.body_len_bound) }

pub returns : goal.returns
returns c =
    let a = c.args in
    pair-sealed a.self.cipher a.self.subkey a.self.length a.counter a.at _ _ _ _ _ c.subkey_bytes-key.ensures c.nonce-first.ensures c.nonce-second.ensures
    c.seal_pair.ensures
