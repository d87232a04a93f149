pub mod Headers
pub mod Parts
