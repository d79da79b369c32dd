pub mod Trace
pub mod Noted
pub mod Rules
pub mod Verdict
pub mod Judged
pub mod Items
pub mod Smallest
