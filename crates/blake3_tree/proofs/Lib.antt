pub mod ChunkLaws
pub mod JoinLaws
pub mod FourLaws
pub mod HashLaws
