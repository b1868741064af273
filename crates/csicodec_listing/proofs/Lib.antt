pub mod Decimal
pub mod Common
pub mod Shown
pub mod Joined
pub mod Member
pub mod Place
