pub mod AeadLaws
pub mod NonceLaws
pub mod ExtendedLaws
