pub mod Named
pub mod SameKeys
pub mod AnyTable
pub mod Lists
pub mod EachTable
pub mod Legacy
pub mod Trip
pub mod Fronts
