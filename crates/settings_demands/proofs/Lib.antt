pub mod SaysLaws
pub mod ReadExactly
pub mod Lowest
pub mod WrittenShown
pub mod NewerSame
pub mod FileOrders
pub mod FileNumbers
