-- Laws of the session table's definitions.
pub mod PlaceLaws
pub mod TableLaws
