pub mod Opens
pub mod Flows
pub mod Back
pub mod Keeps
pub mod Orders
