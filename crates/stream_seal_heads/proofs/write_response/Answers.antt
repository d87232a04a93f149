use mathlib.Core.Path.{◌∙◌}
use native.Mathlib.Omega.{arith}
use lib.ListN.{length}
use Rattle.octets.proofs.BufferLaws.{part-put}
use Rattle.stream_pieces.proofs.PieceLaws.{key-most}
use Rattle.stream_seal_heads.proofs.HeadWriteLaws.{length-part, response-law}
use Rattle.stream_seal_heads.proofs.write_response.Goals as goal

pub copy-requires : goal.copy-requires
copy-requires c = omega (arith, c.requires.n_value, c.requires.n_in_bounds)

pub slice_bounds-seal_response_headers-count : goal.slice_bounds-seal_response_headers-count
slice_bounds-seal_response_headers-count c = omega (arith, c.requires.n_value)

pub slice_bounds-seal_response_headers-start : goal.slice_bounds-seal_response_headers-start
slice_bounds-seal_response_headers-start c = (omega (arith, c.requires.n_value))

pub slice_bounds-seal_response_headers-end : goal.slice_bounds-seal_response_headers-end
slice_bounds-seal_response_headers-end c =
    omega (arith, c.copy.auto.out, c.requires.n_in_bounds)

pub seal_response_headers-requires : goal.seal_response_headers-requires
seal_response_headers-requires c =
    let body-part = length-part c.args.n (length c.args.salt.now) c.copy.new.out (omega (arith, c.copy.auto.out, c.requires.n_in_bounds)) in
    record { binding_len_bound = omega (arith, key-most c.args.key, c.requires.key_len, c.requires.binding_len); payload_len_bound = c.requires.payload_len_bound; body_len = omega (arith, body-part, c.requires.n_value) }

pub returns : goal.returns
returns c =
    let body-part = length-part c.args.n (length c.args.salt.now) c.copy.new.out (omega (arith, c.copy.auto.out, c.requires.n_in_bounds)) in
    response-law _ _ _ _ _ _ _ (omega (arith, c.requires.n_value, c.requires.n_in_bounds)) c.copy.ensures
    (part-put _ _ _ _ (c.seal_response_headers.auto.body ∙ body-part)) _ _ c.seal_response_headers.ensures
