pub mod RuleLaws
pub mod ContentsLaws
