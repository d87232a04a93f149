-- What crate `buffers` has of this, passed on.
pub use Rattle.buffers.specs.Buffers.{Octets, block_count}
unfoldable pub use Rattle.buffers.specs.Buffers.{put, ◌⊞◌, same}
