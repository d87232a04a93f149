-- Laws of the definitions of opening the fixed header and a response's head.
pub mod ResponseLaws
