-- Each return is one case of the fixed header.
use Rattle.std.specs.Prelude.{◌≡◌, Err}
use mathlib.Core.Path.{sym, ◌∙◌}
use Prim.Native.Nat.{◌+◌, ◌-◌, ◌≤◌}
use native.Mathlib.Omega.{arith}
use lib.Dec.{lit≤}
use lib.ListN.{length, drop, length-drop}
use lib.Seq.{length-take-le}
use borrow.Author.Rules.{rules}
use Rattle.stream_pieces.specs.PieceKeys.{keyed_of}
use Rattle.stream_open_request.proofs.RequestLaws.{fixed-part, front-unread, front_read}
use Rattle.stream_open_request.proofs.read_front.Goals as goal

pub slice_bounds-store_if_new-end : goal.slice_bounds-store_if_new-end
slice_bounds-store_if_new-end c =
    sym (length-take-le _ _ (omega (arith, c.requires.n_in_bounds)))

pub open_fixed-requires : goal.open_fixed-requires
open_fixed-requires c =
    let n = c.args.key.length in
    let s = c.args.s.now in
    let long : n + 27 - n ≤ length (drop n s) = omega (arith, c.requires.n_in_bounds, length-drop n s) in
    let size : n + 27 - n ≡ 27 = omega arith in
    record { in_bounds = lit≤ tt; plain_len_bound = lit≤ tt; s_len = length-take-le (n + 27 - n) (drop n s) long ∙ size }

pub returns-in_err-fixed : goal.returns-in_err-fixed
returns-in_err-fixed c =
    let a = c.args in
    let passed_on : c.from_residual.result ≡ Err c.in_err-fixed.field-0.0 = search rules in
    let all = front-unread (keyed_of a.key) a.clock a.key.length a.s.now a.pool.now _ (fixed-part a.key.length a.s.now) _ c.open_fixed.ensures.value _
    c.in_err-fixed.was in record { value = passed_on ∙ all.0; pool_after = all.1 }

pub returns : goal.returns
returns c =
    let a = c.args in let all = front_read (keyed_of a.key) a.clock a.key.length a.s.now a.pool.now _ (fixed-part a.key.length a.s.now) _ c.open_fixed.ensures.value _
    c.in_ok-fixed.was _ _ c.store_if_new.ensures.value c.store_if_new.ensures.pool_after in record { value = all.0; pool_after = all.1 }
