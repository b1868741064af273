pub mod Common
pub mod Texts
pub mod Taken
pub mod Fronts
pub mod Copied
pub mod Written
pub mod Places
