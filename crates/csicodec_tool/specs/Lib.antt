pub mod Log
pub mod Numbered
pub mod Shown
pub mod Spelled
pub mod Stream
pub mod Whole
pub mod Writes
