-- Laws of the definitions of opening behind a head.
pub mod ChunkLaws
