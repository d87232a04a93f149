pub mod MethodLaws
pub mod SubkeyLaws
pub mod AnswerLaws
pub mod DatagramLaws
