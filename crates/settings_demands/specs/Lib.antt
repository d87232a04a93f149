pub mod Files
pub mod FileOrders
pub mod FileNumbers
