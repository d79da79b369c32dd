pub mod Bulk
pub mod Accepted
pub mod Twice
