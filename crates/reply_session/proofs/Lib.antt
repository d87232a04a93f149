pub mod BeginLaws
pub mod Exactly
