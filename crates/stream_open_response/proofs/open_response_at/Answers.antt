use mathlib.Core.Path.{sym}
use native.Mathlib.Omega.{arith}
use lib.Seq.{length-take-le}
use Rattle.stream_pieces.proofs.PieceLaws.{key-most}
use Rattle.stream_open_response.proofs.ResponseLaws.{length-fixed, response-at}
use Rattle.stream_open_response.proofs.open_response_at.Goals as goal

pub slice_bounds-plain-end : goal.slice_bounds-plain-end
slice_bounds-plain-end c =
    omega (arith, key-most c.args.key)

pub slice_bounds-open_bound-end-2 : goal.slice_bounds-open_bound-end-2
slice_bounds-open_bound-end-2 c = sym (length-take-le _ _ (omega (arith, key-most c.args.key)))

pub open_bound-requires : goal.open_bound-requires
open_bound-requires c = record { request_salt_len = c.requires.request_salt_len; plain_len = length-take-le _ _ (omega (arith, key-most c.args.key)); s_len = length-fixed _ _ c.requires.n_in_bounds }

pub returns : goal.returns
returns c = response-at _ _ _ _ _ _ _ _ c.open_bound.ensures
