pub mod Sums
pub mod Engine
