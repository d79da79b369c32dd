pub mod Engine
pub mod Several
