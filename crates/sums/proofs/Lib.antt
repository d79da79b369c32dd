pub mod Types
pub mod Laws
pub mod Walk
pub mod Lots
pub mod One
