pub mod RotationLaws
pub mod ScheduleLaws
pub mod RoundLaws
pub mod SumLaws
