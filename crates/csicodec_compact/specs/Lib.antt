pub mod Compacts
pub mod Runs
pub mod Meaning
pub mod Private
