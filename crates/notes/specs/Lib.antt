pub mod Notes
pub mod Steps
