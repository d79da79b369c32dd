pub mod Refusals
pub mod One
pub mod Rules
