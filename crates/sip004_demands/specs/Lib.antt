pub mod Datagrams
pub mod DatagramOrders
pub mod DatagramNumbers
pub mod Streams
pub mod StreamOrders
pub mod Sip004
pub mod StreamNumbers
