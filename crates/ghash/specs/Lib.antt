pub mod Field
pub mod Ghash
pub mod Table
pub mod Words
