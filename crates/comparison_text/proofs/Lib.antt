pub mod DecimalLaws
pub mod NumberLaws
pub mod LineLaws
pub mod TextLaws
pub mod WholeLaws
pub mod Listed
