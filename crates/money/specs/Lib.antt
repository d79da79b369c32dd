pub mod Count
pub mod Amount
pub mod Plain
