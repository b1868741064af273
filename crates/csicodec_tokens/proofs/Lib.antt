pub mod Printed
pub mod Reading
pub mod Decimal
pub mod FieldsOf
pub mod Beginnings
pub mod Lanes
pub mod Walks
