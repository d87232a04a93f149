pub mod Differences
pub mod Meaning
