pub mod Common
pub mod Blocks
pub mod NextLemmas
pub mod Cuts
pub mod Fronts
