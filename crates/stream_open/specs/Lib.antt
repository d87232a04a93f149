pub mod Steps
pub mod Chunks
