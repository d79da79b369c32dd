pub mod Legal
pub mod Same
pub mod Names
