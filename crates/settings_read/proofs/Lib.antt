pub mod ShownLaws
pub mod AnswerLaws
