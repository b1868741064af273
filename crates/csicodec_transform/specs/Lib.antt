pub mod Transform
pub mod Words
pub mod Known
