pub mod Cipher
pub mod KeyExpansion
pub mod Words
pub mod Keyed
