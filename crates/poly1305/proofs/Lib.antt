pub mod DigitLaws
pub mod PrimeLaws
pub mod WordLaws
pub mod BlockLaws
pub mod MessageLaws
pub mod TagLaws
