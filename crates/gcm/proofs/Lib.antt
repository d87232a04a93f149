pub mod GcmLaws
pub mod KeyedLaws
pub mod Theorems
