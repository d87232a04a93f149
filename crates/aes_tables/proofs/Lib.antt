pub mod Products
pub mod Substitution
pub mod Entries
