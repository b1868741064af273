pub mod Common
pub mod JoinedLists
pub mod Beside
pub mod Told
