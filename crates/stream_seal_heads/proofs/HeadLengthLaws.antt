-- How long each part of a head is.
-- Assumes nothing.
use mathlib.Core.Path.{◌≡◌}
use mathlib.Core.List.{List, [], ◌++◌}
use Prim.Native.Nat.{ℕ, ◌+◌}
use native.Mathlib.Omega.{arith}
use lib.ListN.{length, replicate, length-append, length-replicate}
use Rattle.octets.specs.Numbers.{to_be}
use Rattle.octets.proofs.NumberLaws.{length-to_be}
use Rattle.stream_pieces.specs.Pieces.{seal_at, Keyed}
use Rattle.stream_pieces.proofs.LengthLaws.{length-seal_at}
use Rattle.stream_seal_heads.specs.HeadSealing.{fixed_part, front, variable_part, variable_length, request_at, response_of}

pub length-fixed_part : (kind time : ℕ) (binding : List ℕ) (n : ℕ) → length (fixed_part kind time binding n) ≡ 11 + length binding
unfolding fixed_part
length-fixed_part kind time binding n =
    omega (
      arith,
      length-append (to_be 8 time) (binding ++ to_be 2 n),
      length-append binding (to_be 2 n),
      length-to_be 8 time,
      length-to_be 2 n,
    )

pub length_front : (key : Keyed) (salt : List ℕ) (kind time : ℕ) (binding : List ℕ) (n : ℕ)
    → length (front key salt kind time binding n) ≡ length salt + 27 + length binding
unfolding front
length_front key salt kind time binding n =
    let fixed = fixed_part kind time binding n in
    omega (
      arith,
      length-append salt (seal_at key 0 fixed),
      length-seal_at key 0 fixed,
      length-fixed_part kind time binding n,
    )

pub length-variable_part : (address : List ℕ) (padding : ℕ) (payload : List ℕ)
    → length (variable_part address padding payload) ≡ variable_length (length address) padding (length payload)
unfolding variable_part variable_length
length-variable_part address padding payload =
    omega (
      arith,
      length-append address (to_be 2 padding ++ (replicate padding 0 ++ payload)),
      length-append (to_be 2 padding) (replicate padding 0 ++ payload),
      length-append (replicate padding 0) payload,
      length-to_be 2 padding,
      length-replicate {A = ℕ} padding 0,
    )

pub length-request_at : (k : Keyed) (salt : List ℕ) (time : ℕ) (address : List ℕ) (padding : ℕ) (payload : List ℕ)
    → length (request_at k salt time address padding payload) ≡ length salt + 27 + variable_length (length address) padding (length payload) + 16
unfolding request_at
length-request_at k salt time address padding payload =
    let v = variable_part address padding payload in
    omega (
      arith,
      length-append (front k salt 0 time [] (length v)) (seal_at k 1 v),
      length_front k salt 0 time [] (length v),
      length-seal_at k 1 v,
      length-variable_part address padding payload,
    )

pub length-response_of : (k : Keyed) (salt binding : List ℕ) (time : ℕ) (payload : List ℕ)
    → length (response_of k salt binding time payload) ≡ length salt + 27 + length binding + length payload + 16
unfolding response_of
length-response_of k salt binding time payload =
    omega (
      arith,
      length-append (front k salt 1 time binding (length payload)) (seal_at k 1 payload),
      length_front k salt 1 time binding (length payload),
      length-seal_at k 1 payload,
    )
