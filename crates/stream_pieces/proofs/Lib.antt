-- Laws of pieces.
pub mod LengthLaws
pub mod KeyLaws
pub mod PieceLaws
pub mod FramingLaws
