pub mod ElementLaws
pub mod FieldLaws
pub mod StepLaws
pub mod TableLaws
pub mod DoubledLaws
pub mod GatherLaws
pub mod GhashLaws
