pub mod Common
pub mod Marks
pub mod MarkupBytes
pub mod Recalled
pub mod Paired
