pub mod Filter
pub mod Meaning
pub mod Rewrites
