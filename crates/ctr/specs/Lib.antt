pub mod Gctr
pub mod Words
pub mod Kept
pub mod Long
