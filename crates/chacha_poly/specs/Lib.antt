pub mod Aead
pub mod Extended
