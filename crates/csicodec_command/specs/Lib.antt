pub mod Common
pub mod Failure
pub mod Overwrites
pub mod Packed
pub mod Recorded
pub mod Runs
