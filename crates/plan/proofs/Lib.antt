pub mod AnswerLaws
pub mod WordLaws
