pub mod RoundsLaws
pub mod BlockLaws
pub mod MaskLaws
