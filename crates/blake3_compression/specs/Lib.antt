pub mod Compression
pub mod Columns
