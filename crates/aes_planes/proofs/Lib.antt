pub mod StepLaws
pub mod PlaceLaws
pub mod MixLaws
pub mod SubLaws
