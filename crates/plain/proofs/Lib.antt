pub mod Scans
pub mod Values
pub mod Pieces
pub mod Documents
pub mod Answers
pub mod Once
