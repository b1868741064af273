pub mod Regular
pub mod Terminal
