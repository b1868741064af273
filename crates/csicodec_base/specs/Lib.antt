pub mod Attributes
pub mod Shapes
pub mod Pieces
pub mod FrontBy
pub mod SgrText
pub mod Entries
