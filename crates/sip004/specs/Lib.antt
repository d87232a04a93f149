pub mod Method
pub mod Subkey
pub mod Datagram
