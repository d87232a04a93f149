pub mod OpeningLaws
pub mod ReadLaws
