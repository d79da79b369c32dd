pub mod Engine
pub mod Indexed
