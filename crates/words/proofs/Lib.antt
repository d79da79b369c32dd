pub mod White
pub mod Runs
pub mod Ends
pub mod Collapsed
pub mod Slashes
pub mod Walk
pub mod Forms
pub mod Legal
