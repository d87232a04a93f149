pub mod Rules
pub mod Contents
