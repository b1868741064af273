pub mod Cuts
pub mod Lines
pub mod Stream
pub mod Private
