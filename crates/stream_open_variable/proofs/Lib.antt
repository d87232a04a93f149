-- Laws of the definitions of opening a variable header.
pub mod VariableLaws
