-- Laws of the window's definitions.
pub mod ShiftLaws
pub mod MarkLaws
