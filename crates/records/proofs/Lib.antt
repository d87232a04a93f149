-- Laws of the records' definitions.
pub mod CurrentLaws
pub mod SearchLaws
pub mod PlaceLaws
pub mod WordLaws
