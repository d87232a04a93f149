pub mod Datagrams
pub mod Heads
