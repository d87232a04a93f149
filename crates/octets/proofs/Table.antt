-- What crate `buffers` has of this, passed on.
pub use Rattle.buffers.proofs.Table.{passes, at_each, holds, at_entry}
