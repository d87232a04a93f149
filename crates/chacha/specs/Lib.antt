pub mod Words
pub mod ChaCha
pub mod Lanes
