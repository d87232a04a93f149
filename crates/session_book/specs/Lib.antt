pub mod Call
pub mod Book
pub mod Runs
pub mod Demand3
pub mod Counts
pub mod Once
