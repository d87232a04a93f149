pub mod Pool
pub mod Runs
