pub mod Characters
pub mod Events
pub mod Front
pub mod Input
pub mod Private
