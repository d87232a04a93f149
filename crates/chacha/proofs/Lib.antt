pub mod WordLaws
pub mod LaneLaws
pub mod RoundLaws
pub mod BlockLaws
pub mod StreamLaws
