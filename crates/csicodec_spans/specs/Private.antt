-- What private steps say of each other. No promise rests on these files.
pub mod TableBy
pub mod Begun
pub mod Looked
