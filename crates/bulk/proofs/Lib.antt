pub mod One
pub mod Played
pub mod Engines
