pub mod MarkupBytes
pub mod Rule
pub mod Sheet
pub mod Turns
