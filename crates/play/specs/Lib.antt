pub mod Table
pub mod Play
pub mod Code
