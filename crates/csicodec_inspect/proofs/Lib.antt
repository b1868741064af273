pub mod Common
pub mod Assembled
pub mod Sent
