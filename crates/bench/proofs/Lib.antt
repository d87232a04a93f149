pub mod HashLaws
pub mod SubkeyLaws
pub mod TagLaws
pub mod DigestLaws
