pub mod PairLaws
pub mod GivenLaws
pub mod WritableLaws
pub mod AnswerLaws
pub mod EntryLaws
pub mod WritingLaws
pub mod FileLaws
