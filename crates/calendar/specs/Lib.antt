pub mod Pattern
pub mod Date
pub mod Time
