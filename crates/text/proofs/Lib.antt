pub mod Truths
pub mod Scan
pub mod Chains
pub mod Sets
pub mod Digits
pub mod Decimal
pub mod Blur
pub mod Positions
