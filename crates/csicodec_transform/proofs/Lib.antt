pub mod Sent
pub mod Slots
