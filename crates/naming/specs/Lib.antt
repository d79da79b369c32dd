pub mod Key
pub mod Own
