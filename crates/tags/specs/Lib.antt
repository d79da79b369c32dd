pub mod Tags
pub mod Values
