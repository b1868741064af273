pub mod Forms
pub mod Commands
pub mod Osc
pub mod Private
pub mod Escaped
