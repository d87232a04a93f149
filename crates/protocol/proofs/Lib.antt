pub mod MethodLaws
pub mod SubkeyLaws
pub mod OrderLaws
