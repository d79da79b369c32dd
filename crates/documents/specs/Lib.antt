pub mod Document
pub mod Said
pub mod Message
pub mod Holds
pub mod Standing
