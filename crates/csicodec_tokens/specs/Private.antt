-- What private steps say of each other. No promise rests on these files.
pub mod FieldsBy
pub mod Reading
pub mod Walking
