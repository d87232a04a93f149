-- What crate `buffers` has of this, passed on.
pub use Rattle.buffers.proofs.BufferLaws.{octets-nil, octets-fit, octets-cons, octets-tail, octets-append, octets-drop, octets-take, rest, length-xor, xor-twice, octets-xor, xor-none, xor-next, xor_all, length-put, take_put, drop-put, put-put, put-behind, put-again, put_one, put-none, put_whole, part-put, zeros-put, take-put-min, drop-put-min, get_or-zeros, get_or-padded, same_refl, same-eq, same_next, no_difference}
