pub mod Mend
pub mod Report
