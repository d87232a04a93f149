pub mod ChunkLaws
pub mod LaneLaws
pub mod EachLaws
pub mod BlockLaws
