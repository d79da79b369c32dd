pub mod Twice
pub mod Engine
