pub mod EntryLaws
pub mod WellFormedLaws
pub mod WrittenLaws
