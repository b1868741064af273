pub mod Steps
pub mod Reading
pub mod Stream
pub mod Lost
pub mod Private
pub mod Turned
