pub mod Datagrams
pub mod Plans
pub mod Streams
pub mod Recordings
pub mod Sip004
