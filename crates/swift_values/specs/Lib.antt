pub mod Stands
pub mod Lanes
pub mod Blocks
pub mod Dates
pub mod Bics
pub mod Amounts
