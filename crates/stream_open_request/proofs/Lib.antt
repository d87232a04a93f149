-- Laws of the definitions of opening a request's front.
pub mod RequestLaws
