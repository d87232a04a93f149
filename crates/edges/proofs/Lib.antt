pub mod CurrentLaws
pub mod Edges
pub mod Numbers
pub mod PlanNumbers
pub mod Recordings
