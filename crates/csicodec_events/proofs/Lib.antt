pub mod Forms
pub mod Fronts
pub mod Moves
pub mod Divided
pub mod Run
pub mod Looks
pub mod Stops
