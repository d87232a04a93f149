pub mod WindowLaws
