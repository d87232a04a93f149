pub mod DifferenceLaws
pub mod EightLaws
pub mod Real
