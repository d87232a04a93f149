pub mod Calls
pub mod DatagramOrder
pub mod Guarantees
