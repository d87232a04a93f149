pub mod Mix
pub mod Rows
pub mod State
pub mod Sub
