pub mod Spelled
pub mod Modulo
pub mod Told
pub mod Turned
