pub mod Example
pub mod Long
pub mod Once
