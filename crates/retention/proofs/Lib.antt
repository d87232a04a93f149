pub mod RetentionLaws
