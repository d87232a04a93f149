pub mod HeadLengthLaws
pub mod HeadAnswerLaws
pub mod HeadWriteLaws
