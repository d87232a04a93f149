pub mod Plans
pub mod PlanOrders
pub mod Seals
pub mod Received
