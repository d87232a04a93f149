pub mod Beginning
pub mod Exactly
