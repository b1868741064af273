pub mod Alone
pub mod Assembled
pub mod Found
pub mod Sent
pub mod Visible
