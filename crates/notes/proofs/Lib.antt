pub mod Notings
pub mod Stays
pub mod Sums
pub mod Room
