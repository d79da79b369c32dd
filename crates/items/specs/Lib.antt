pub mod Alone
pub mod Walk
pub mod Sure
pub mod Chain
pub mod Places
pub mod Sums
