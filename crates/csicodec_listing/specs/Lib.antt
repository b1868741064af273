pub mod Object
pub mod Lines
pub mod Private
