-- Laws of chunks over a framing.
pub mod StepLaws
pub mod ChunkBackLaws
pub mod WholeLaws
pub mod KeepLaws
pub mod ChunkOrders
