pub mod Shorter
pub mod Written
pub mod Meaning
pub mod Unknown
