pub mod SwapLaws
pub mod BlockLaws
pub mod OneLaws
pub mod GhashLaws
pub mod Laws
