-- Laws of sealing chunks.
pub mod LengthLaws
pub mod SealAnswerLaws
pub mod SealWriteLaws
