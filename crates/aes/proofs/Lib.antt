pub mod WordLaws
pub mod RoundLaws
pub mod KeyLaws
pub mod BlockLaws
pub mod KeyedLaws
