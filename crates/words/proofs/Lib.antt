pub mod LentLaws
pub mod HeldLaws
