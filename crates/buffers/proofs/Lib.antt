pub mod XorLaws
pub mod Table
pub mod BufferLaws
