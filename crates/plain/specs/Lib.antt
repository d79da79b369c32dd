pub mod Engine
pub mod Answer
pub mod Indexed
