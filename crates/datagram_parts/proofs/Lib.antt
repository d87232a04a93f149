pub mod LengthLaws
pub mod OverheadLaws
pub mod SubkeyLaws
pub mod WritingLaws
