pub mod BufferLaws
pub mod ExpandLaws
pub mod HkdfLaws
