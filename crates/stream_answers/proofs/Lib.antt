pub mod ChunkLaws
mod BeginLaws
