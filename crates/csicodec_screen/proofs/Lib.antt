pub mod Ends
pub mod Fed
pub mod Formed
pub mod Parts
pub mod Shown
pub mod Times
