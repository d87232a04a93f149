use mathlib.Core.Path.{◌∙◌}
use native.Mathlib.Omega.{arith}
use lib.ListN.{length}
use Rattle.octets.proofs.BufferLaws.{part-put}
use Rattle.stream_seal_heads.proofs.HeadWriteLaws.{length-part, request-law}
use Rattle.stream_seal_heads.proofs.write_request.Goals as goal

pub copy-requires : goal.copy-requires
copy-requires c = omega (arith, c.requires.n_value, c.requires.n_in_bounds)

pub slice_bounds-seal_request_headers-count : goal.slice_bounds-seal_request_headers-count
slice_bounds-seal_request_headers-count c = omega (arith, c.requires.n_value)

pub slice_bounds-seal_request_headers-start : goal.slice_bounds-seal_request_headers-start
slice_bounds-seal_request_headers-start c = (omega (arith, c.requires.n_value))

pub slice_bounds-seal_request_headers-end : goal.slice_bounds-seal_request_headers-end
slice_bounds-seal_request_headers-end c =
    omega (arith, c.copy.auto.out, c.requires.n_in_bounds)

pub seal_request_headers-requires : goal.seal_request_headers-requires
seal_request_headers-requires c =
    let body-part = length-part c.args.n (length c.args.salt.now) c.copy.new.out (omega (arith, c.copy.auto.out, c.requires.n_in_bounds)) in
    record { payload_bound = c.requires.payload_bound; body_len = omega (arith, body-part, c.requires.n_value) }

pub returns : goal.returns
returns c =
    let body-part = length-part c.args.n (length c.args.salt.now) c.copy.new.out (omega (arith, c.copy.auto.out, c.requires.n_in_bounds)) in
    request-law _ _ _ _ _ _ _ (omega (arith, c.requires.n_value, c.requires.n_in_bounds)) c.copy.ensures
    (part-put _ _ _ _ (c.seal_request_headers.auto.body ∙ body-part)) _ _ _ c.seal_request_headers.ensures
