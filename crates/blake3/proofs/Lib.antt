pub mod WordLaws
pub mod TreeLaws
pub mod DerivationLaws
