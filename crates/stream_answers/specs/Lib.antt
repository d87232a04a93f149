pub mod Told
pub mod Chunks
pub mod Beginning
