pub mod Bic
pub mod Head
pub mod Iban
pub mod Identifier
pub mod Lengths
pub mod Letters
