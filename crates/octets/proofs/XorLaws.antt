-- What crate `buffers` has of this, passed on.
pub use Rattle.buffers.proofs.XorLaws.{digit_lt, xor-parity, digit-mul-le, differ-mul, mul-xor, xor_assoc, xor-medial, xor-cancel, xor-zero}
