pub mod PlanLaws
pub mod MethodLaws
pub mod CaseLaws
pub mod ExactlyLaws
pub mod DemandLaws
pub mod PlanOrders
pub mod SealsLaws
pub mod ReceivedLaws
