pub mod Table
pub mod NoAction
