pub mod Coded
pub mod Places
