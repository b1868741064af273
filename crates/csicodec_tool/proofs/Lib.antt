pub mod Common
pub mod Anchors
pub mod Logged
pub mod Screened
pub mod Spelling
pub mod Whole
pub mod Written
