pub mod Instant
pub mod Record
pub mod Cases
