pub mod Method
pub mod Refusal
pub mod Time
pub mod Subkey
pub mod Orders
