pub mod Verdict
pub mod Found
pub mod Survey
pub mod Index
pub mod Engine
