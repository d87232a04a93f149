pub mod Functions
pub mod Rounds
pub mod Schedule
pub mod Compression
