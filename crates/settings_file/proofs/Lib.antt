pub mod RowLaws
pub mod MadeLaws
pub mod FindLaws
