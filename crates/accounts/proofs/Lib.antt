pub mod Forms
pub mod Lengths
pub mod Laid
pub mod Instead
pub mod Slips
pub mod Letters
