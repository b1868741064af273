pub mod Status
pub mod Normalise
pub mod Room
pub mod Structs
pub mod Rows
pub mod Next
pub mod Encode
pub mod Private
