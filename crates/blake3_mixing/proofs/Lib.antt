pub mod RotationLaws
pub mod HalfLaws
