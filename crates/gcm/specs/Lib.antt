pub mod Gcm
pub mod Keyed
