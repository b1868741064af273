pub mod Common
pub mod Left
pub mod Turns
