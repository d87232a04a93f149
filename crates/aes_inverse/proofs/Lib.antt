pub mod MixLaws
pub mod RoundLaws
pub mod Inverse
